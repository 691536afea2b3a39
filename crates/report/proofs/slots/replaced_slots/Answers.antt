-- `slots::replaced_slots` is the table of specs/Slots.
use Rattle.report.specs.Slots.{replaced_slots}
use Rattle.report.proofs.slots.replaced_slots.Goals as goal

pub returns : goal.returns
unfolding replaced_slots
returns c = simp (c.last-last.ensures, c.own-own.ensures, c.symbol-symbol.ensures, c.side-side.ensures, c.quoted-price.ensures, c.avg_px-average.ensures, c.sender_sub_id-group.ensures)
