-- `intake::checks::cancel_stands` meets its contract.
use Rattle.intake.proofs.Checking.{holder_below, cancel_is}
use borrow.Author.Rules.{rules}
use Rattle.intake.proofs.checks.cancel_stands.Goals as goal

pub change_stands-requires : goal.change_stands-requires
change_stands-requires c = (search rules, search (rules, holder_below))

pub returns : goal.returns
returns c = search (rules, cancel_is)
