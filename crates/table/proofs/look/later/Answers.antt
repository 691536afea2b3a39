-- `table::look::later` meets its contract.
use Rattle.table.proofs.Notes.{next_fits, where_true, where_false}
use borrow.Author.Rules.{rules}
use Rattle.table.proofs.look.later.Goals as goal

pub overflow_add-result : goal.overflow_add-result
overflow_add-result c = search (rules, next_fits)

pub returns-then-turn-x : goal.returns-then-turn-x
returns-then-turn-x c = search (rules, where_true)

pub returns-else-turn-x : goal.returns-else-turn-x
returns-else-turn-x c = search (rules, where_false)
