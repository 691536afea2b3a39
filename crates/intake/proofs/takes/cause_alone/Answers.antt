-- `intake::takes::cause_alone` meets its contract.
use Rattle.intake.proofs.Leaving.{alone_is}
use borrow.Author.Rules.{rules}
use Rattle.intake.proofs.takes.cause_alone.Goals as goal

pub returns : goal.returns
returns c = search (rules, alone_is)
