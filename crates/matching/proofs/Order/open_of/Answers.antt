-- The three amounts are covered by the quantity, so nothing wraps.
use borrow.Author.Rules.{rules}
use Rattle.matching.specs.Matching.{open_of}
use Rattle.matching.proofs.Order.open_of.Goals as goal

pub returns : goal.returns
unfolding open_of
returns c = search rules
