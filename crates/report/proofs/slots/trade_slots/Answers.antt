-- `slots::trade_slots` is the table of specs/Slots.
use Rattle.report.specs.Slots.{trade_slots}
use Rattle.report.proofs.slots.trade_slots.Goals as goal

pub returns : goal.returns
unfolding trade_slots
returns c = simp (c.last-last.ensures, c.own-own.ensures, c.count-count.ensures, c.other-other.ensures, c.symbol-symbol.ensures, c.side-side.ensures, c.quoted-price.ensures, c.quoted-last_price.ensures, c.avg_px-average.ensures, c.sender_sub_id-group.ensures)
