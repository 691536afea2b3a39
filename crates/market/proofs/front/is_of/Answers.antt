-- `market::front::is_of` meets its contract: the kind that the heading notes is that of the call.
use borrow.Author.Rules.{rules}
use Rattle.market.proofs.Tops.{of_noted}
use Rattle.market.proofs.front.is_of.Goals as goal

pub returns : goal.returns
returns c = search (rules, of_noted)
