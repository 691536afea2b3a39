-- `intake::takes::raise` meets its contract.
use Rattle.intake.proofs.Leaving.{raised}
use borrow.Author.Rules.{rules}
use Rattle.intake.proofs.takes.raise.Goals as goal

pub returns : goal.returns
returns c = search (rules, raised)
