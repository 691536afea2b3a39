-- `table::record::write_fields` meets its contract: four bytes, the terms, the MPID and the tail one after the other are the fields.
use Rattle.table.proofs.Writes.{fields_written}
use borrow.Author.Rules.{rules}
use Rattle.table.proofs.record.write_fields.Goals as goal

pub returns : goal.returns
returns c = search (rules, fields_written)
