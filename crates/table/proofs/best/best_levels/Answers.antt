-- `table::best::best_levels` meets its contract: after i records each is the best level of the first i.
use borrow.Author.Rules.{rules}
use Rattle.table.proofs.Fronts.{next_below, nearest_none, nearest_more, nearest_end}
use Rattle.table.proofs.best.best_levels.Goals as goal

pub loop-k-init : goal.loop-k-init
loop-k-init c = (nearest_none _ 0 _, nearest_none _ 0 _)

pub nearer_at-buy-requires : goal.nearer_at-buy-requires
nearer_at-buy-requires c = search (rules, next_below)

pub nearer_at-sell-requires : goal.nearer_at-sell-requires
nearer_at-sell-requires c = search (rules, next_below)

pub loop-k-preserved : goal.loop-k-preserved
loop-k-preserved c = (search (rules, nearest_more), search (rules, nearest_more))

pub returns : goal.returns
returns c = (search (rules, nearest_end), search (rules, nearest_end))
