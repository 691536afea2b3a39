-- `table::look::offered` meets its contract.
use Rattle.table.proofs.Looks.{offered_met, offered_unmet}
use borrow.Author.Rules.{rules}
use Rattle.table.proofs.look.offered.Goals as goal

pub returns-then-faces : goal.returns-then-faces
returns-then-faces c = search (rules, offered_met)

pub returns : goal.returns
returns c = search (rules, offered_unmet)
