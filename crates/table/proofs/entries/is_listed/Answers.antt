-- `table::is_listed` meets its contract.
use Rattle.table.proofs.Listed.{listed_at}
use borrow.Author.Rules.{rules}
use Rattle.table.proofs.entries.is_listed.Goals as goal

pub returns : goal.returns
returns c = search (rules, listed_at)
