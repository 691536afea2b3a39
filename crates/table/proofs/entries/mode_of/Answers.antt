-- `table::mode_of` meets its contract.
use Rattle.table.proofs.Listed.{mode_there, mode_missing}
use borrow.Author.Rules.{rules}
use Rattle.table.proofs.entries.mode_of.Goals as goal

pub returns-then-k-n : goal.returns-then-k-n
returns-then-k-n c = search (rules, mode_there)

pub returns-else-k-n : goal.returns-else-k-n
returns-else-k-n c = search (rules, mode_missing)
