-- `intake::checks::holder` meets its contract: the filled records are searched.
use Rattle.intake.proofs.Standing.{holder_is, holder_small}
use borrow.Author.Rules.{rules}
use Rattle.intake.proofs.checks.holder.Goals as goal

pub returns : goal.returns
returns c = (search (rules, holder_is), search (rules, holder_small))
