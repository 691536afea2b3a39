-- The number that two digits say.
use Rattle.decimal.proofs.Times.{two_least, two_says}
use Rattle.decimal.proofs.read.two_at.Goals as goal

pub overflow_sub-result : goal.overflow_sub-result
overflow_sub-result c = two_least _ _ _ _ c.requires.1 c.from.ensures c.from-2.ensures

pub returns : goal.returns
returns c = two_says _ _ _ _ c.requires.1 c.from.ensures c.from-2.ensures
