-- `load::find::length_at` meets its contract.
use Rattle.load.proofs.Finding.{found_at}
use borrow.Author.Rules.{rules}
use Rattle.load.proofs.find.length_at.Goals as goal

pub returns : goal.returns
returns c = search (rules, found_at)
