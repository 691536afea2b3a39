-- `table::record::write_terms` meets its contract: three numbers one after the other are the terms.
use Rattle.table.proofs.Writes.{terms_written}
use borrow.Author.Rules.{rules}
use Rattle.table.proofs.record.write_terms.Goals as goal

pub returns : goal.returns
returns c = search (rules, terms_written)
