-- `table::facing::earlier` meets its contract.
use Rattle.table.proofs.Notes.{where_before, where_not}
use borrow.Author.Rules.{rules}
use Rattle.table.proofs.facing.earlier.Goals as goal

pub returns-then-turns-k : goal.returns-then-turns-k
returns-then-turns-k c = search (rules, where_before)

pub returns-else-turns-k : goal.returns-else-turns-k
returns-else-turns-k c = search (rules, where_not)
