-- `table::look::Offers::halved` meets its contract: what is left of the window is no larger.
use Rattle.table.proofs.Notes.{shrunk_most}
use borrow.Author.Rules.{rules}
use Rattle.table.proofs.look.Offers.halved.Goals as goal

pub returns : goal.returns
returns c = (search rules, search (rules, shrunk_most))
