-- An immediate order with something open expires; else the order rests.
use Rattle.matching.specs.Matching.{ending}
use Rattle.matching.proofs.Order.ending.Goals as goal

pub returns-then-is_immediate-quantity : goal.returns-then-is_immediate-quantity
unfolding ending
returns-then-is_immediate-quantity c = rw (← c.open_of-quantity.ensures, ← c.is_immediate.ensures, c.if-is_immediate-quantity.true)

pub returns : goal.returns
unfolding ending
returns c = rw (← c.open_of-quantity.ensures, ← c.is_immediate.ensures, c.if-is_immediate-quantity.false)
