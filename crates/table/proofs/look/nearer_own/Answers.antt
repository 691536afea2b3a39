-- `table::look::nearer_own` meets its contract.
use Rattle.table.proofs.Notes.{where_before, where_not}
use borrow.Author.Rules.{rules}
use Rattle.table.proofs.look.nearer_own.Goals as goal

pub returns-then-trades-offers : goal.returns-then-trades-offers
returns-then-trades-offers c = search (rules, where_before)

pub returns-else-trades-offers : goal.returns-else-trades-offers
returns-else-trades-offers c = search (rules, where_not)
