-- `intake::checks::is_stranger` meets its contract.
use Rattle.intake.proofs.Checking.{stranger_is}
use borrow.Author.Rules.{rules}
use Rattle.intake.proofs.checks.is_stranger.Goals as goal

pub returns : goal.returns
returns c = search (rules, stranger_is)
