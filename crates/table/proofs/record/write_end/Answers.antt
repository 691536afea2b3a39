-- `table::record::write_end` meets its contract: two bytes, then zeros.
use Rattle.table.proofs.Writes.{end_written}
use borrow.Author.Rules.{rules}
use Rattle.table.proofs.record.write_end.Goals as goal

pub returns : goal.returns
returns c = search (rules, end_written)
