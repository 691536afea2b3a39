-- `market::front::has_levels` meets its contract: two levels in their ranges, or none while an order is in work.
use Rattle.market.proofs.Tops.{levels_idle, levels_busy}
use borrow.Author.Rules.{rules}
use Rattle.market.proofs.front.has_levels.Goals as goal

pub returns-then-work-eq0 : goal.returns-then-work-eq0
returns-then-work-eq0 c = search (rules, levels_idle)

pub returns : goal.returns
returns c = search (rules, levels_busy)
