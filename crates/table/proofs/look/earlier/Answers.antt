-- `table::look::earlier` meets its contract.
use Rattle.table.proofs.Notes.{where_true, where_false}
use borrow.Author.Rules.{rules}
use Rattle.table.proofs.look.earlier.Goals as goal

pub returns-then-x-turn : goal.returns-then-x-turn
returns-then-x-turn c = search (rules, where_true)

pub returns-else-x-turn : goal.returns-else-x-turn
returns-else-x-turn c = search (rules, where_false)
