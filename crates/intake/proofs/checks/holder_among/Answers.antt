-- `intake::checks::holder_among` meets its contract.
use Rattle.intake.proofs.Checking.{holder_among}
use borrow.Author.Rules.{rules}
use Rattle.intake.proofs.checks.holder_among.Goals as goal

pub returns : goal.returns
returns c = search (rules, holder_among)
