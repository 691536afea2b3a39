-- `table::record::write_tail` meets its contract: the amounts, the OrderID, MinQty, then the end.
use Rattle.table.proofs.Writes.{tail_written}
use borrow.Author.Rules.{rules}
use Rattle.table.proofs.record.write_tail.Goals as goal

pub returns : goal.returns
returns c = search (rules, tail_written)
