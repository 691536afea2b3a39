-- `table::best::write_orders` meets its contract: the two numbers of orders, then a zero.
use Rattle.table.proofs.Writes.{orders_written}
use borrow.Author.Rules.{rules}
use Rattle.table.proofs.best.write_orders.Goals as goal

pub returns : goal.returns
returns c = search (rules, orders_written)
