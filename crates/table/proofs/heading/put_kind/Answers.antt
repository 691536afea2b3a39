-- `table::heading::put_kind` meets its contract: one byte is set.
use Rattle.table.proofs.Writes.{kind_written}
use borrow.Author.Rules.{rules}
use Rattle.table.proofs.heading.put_kind.Goals as goal

pub returns : goal.returns
returns c = search (rules, kind_written)
