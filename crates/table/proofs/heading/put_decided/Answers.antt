-- `table::heading::put_decided` meets its contract: one byte is set.
use Rattle.table.proofs.Writes.{decided_written}
use borrow.Author.Rules.{rules}
use Rattle.table.proofs.heading.put_decided.Goals as goal

pub returns : goal.returns
returns c = search (rules, decided_written)
