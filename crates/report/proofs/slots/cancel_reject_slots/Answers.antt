-- `slots::cancel_reject_slots` is the table of specs/Slots.
use Rattle.report.specs.Slots.{cancel_reject_slots}
use Rattle.report.proofs.slots.cancel_reject_slots.Goals as goal

pub returns : goal.returns
unfolding cancel_reject_slots
returns c = rw c.sender_sub_id-group.ensures
