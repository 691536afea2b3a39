-- `table::best::both_stand` meets its contract: after i records b and s have what the first i add.
use borrow.Author.Rules.{rules}
use Rattle.table.proofs.Fronts.{next_below, counted_none, total_fits, orders_fit, counted_more, counted_all}
use Rattle.table.proofs.best.both_stand.Goals as goal

pub loop-k-init : goal.loop-k-init
loop-k-init c = (search (rules, counted_none), search (rules, counted_none))

pub with_record-b-requires : goal.with_record-b-requires
with_record-b-requires c = search (rules, next_below, total_fits, orders_fit)

pub with_record-s-requires : goal.with_record-s-requires
with_record-s-requires c = search (rules, next_below, total_fits, orders_fit)

pub loop-k-preserved : goal.loop-k-preserved
loop-k-preserved c = (search (rules, counted_more), search (rules, counted_more))

pub returns : goal.returns
returns c = (search (rules, counted_all), search (rules, counted_all))
