-- `table::record::level_at` meets its contract: the number at its place is the level of the order.
use Rattle.table.specs.Orders.{order_at}
use borrow.Author.Rules.{rules}
use Rattle.table.proofs.record.level_at.Goals as goal

pub returns : goal.returns
unfolding order_at
returns c = search rules
