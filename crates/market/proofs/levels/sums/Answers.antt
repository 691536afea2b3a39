-- `market::levels::sums` meets its contract: what stands on the level says it.
use borrow.Author.Rules.{rules}
use Rattle.market.proofs.LevelLaws.{sums_total, sums_orders}
use Rattle.market.proofs.levels.sums.Goals as goal

pub returns : goal.returns
returns c = (search (rules, sums_total), search (rules, sums_orders), search rules)
