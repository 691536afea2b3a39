-- `intake::checks::holder_of` meets its contract.
use Rattle.intake.proofs.Checking.{holder_of_is}
use borrow.Author.Rules.{rules}
use Rattle.intake.proofs.checks.holder_of.Goals as goal

pub returns : goal.returns
returns c = (search (rules, holder_of_is), search rules)
