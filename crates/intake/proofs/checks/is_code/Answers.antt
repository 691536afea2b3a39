-- `intake::checks::is_code` meets its contract: the code is compared with the heading's.
use Rattle.intake.proofs.Standing.{code_is}
use borrow.Author.Rules.{rules}
use Rattle.intake.proofs.checks.is_code.Goals as goal

pub returns : goal.returns
returns c = search (rules, code_is)
