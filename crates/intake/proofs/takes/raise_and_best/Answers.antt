-- `intake::takes::raise_and_best` meets its contract: the number, then the best levels.
use Rattle.intake.proofs.Leaving.{raised_told}
use borrow.Author.Rules.{rules}
use Rattle.intake.proofs.takes.raise_and_best.Goals as goal

pub returns : goal.returns
returns c = search (rules, raised_told)
