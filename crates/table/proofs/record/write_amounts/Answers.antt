-- `table::record::write_amounts` meets its contract: four numbers one after the other are the amounts.
use Rattle.table.proofs.Writes.{amounts_written}
use borrow.Author.Rules.{rules}
use Rattle.table.proofs.record.write_amounts.Goals as goal

pub returns : goal.returns
returns c = search (rules, amounts_written)
