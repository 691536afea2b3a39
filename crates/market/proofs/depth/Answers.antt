-- `market::depth` meets its contract: the refusals in their order, then the level.
use borrow.Author.Rules.{rules}
use Rattle.market.proofs.Answers.{checked, checked_long, depth_none, depth_refused, depth_best, depth_found}
use Rattle.market.proofs.depth.Goals as goal

pub returns-then-not-is_market_of : goal.returns-then-not-is_market_of
returns-then-not-is_market_of c = search (rules, depth_none)

pub asked-requires : goal.asked-requires
asked-requires c = search (rules, checked_long)

pub returns-in_err-asked : goal.returns-in_err-asked
returns-in_err-asked c = search (rules, depth_refused)

pub best_at-requires : goal.best_at-requires
best_at-requires c = search (rules, checked_long)

pub returns-then-k-eq0 : goal.returns-then-k-eq0
returns-then-k-eq0 c = search (rules, depth_best)

pub level-requires : goal.level-requires
level-requires c = search (rules, checked)

pub returns : goal.returns
returns c = search (rules, depth_found)
