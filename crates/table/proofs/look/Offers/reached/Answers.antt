-- `table::look::Offers::reached` meets its contract.
use Rattle.table.proofs.Notes.{between_all}
use borrow.Author.Rules.{rules}
use Rattle.table.proofs.look.Offers.reached.Goals as goal

pub reach-requires : goal.reach-requires
reach-requires c = search (rules, between_all)
