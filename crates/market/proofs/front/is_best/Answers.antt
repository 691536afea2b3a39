-- `market::front::is_best` meets its contract: no level, then too many orders, then the other ranges.
use Rattle.market.proofs.Tops.{best_none, best_many, best_level}
use borrow.Author.Rules.{rules}
use Rattle.market.proofs.front.is_best.Goals as goal

pub returns-then-is_none : goal.returns-then-is_none
returns-then-is_none c = search (rules, best_none)

pub returns-then-b-gt255 : goal.returns-then-b-gt255
returns-then-b-gt255 c = search (rules, best_many)

pub returns : goal.returns
returns c = search (rules, best_level)
