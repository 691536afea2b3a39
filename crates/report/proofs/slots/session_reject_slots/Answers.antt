-- `slots::session_reject_slots` is the table of specs/Slots.
use Rattle.report.specs.Slots.{session_reject_slots}
use Rattle.report.proofs.slots.session_reject_slots.Goals as goal

pub returns : goal.returns
unfolding session_reject_slots
returns c = rw c.sender_sub_id-group.ensures
