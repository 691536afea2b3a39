-- `intake::takes::cause_with` meets its contract.
use Rattle.intake.proofs.Leaving.{with_is}
use borrow.Author.Rules.{rules}
use Rattle.intake.proofs.takes.cause_with.Goals as goal

pub returns : goal.returns
returns c = search (rules, with_is)
