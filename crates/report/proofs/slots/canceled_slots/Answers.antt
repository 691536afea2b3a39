-- `slots::canceled_slots` is the table of specs/Slots.
use Rattle.report.specs.Slots.{canceled_slots}
use Rattle.report.proofs.slots.canceled_slots.Goals as goal

pub returns : goal.returns
unfolding canceled_slots
returns c = simp (c.last-last.ensures, c.own-own.ensures, c.symbol-symbol.ensures, c.side-side.ensures, c.quoted-price.ensures, c.avg_px-average.ensures, c.sender_sub_id-group.ensures)
