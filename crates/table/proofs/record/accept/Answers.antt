-- `table::record::accept` meets its contract: the texts and the fields one after the other are the record.
use Rattle.table.proofs.Writes.{record_written}
use borrow.Author.Rules.{rules}
use Rattle.table.proofs.record.accept.Goals as goal

pub returns : goal.returns
returns c = search (rules, record_written)
