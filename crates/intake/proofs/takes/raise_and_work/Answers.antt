-- `intake::takes::raise_and_work` meets its contract: the number, then the work, then no best levels.
use Rattle.intake.proofs.Leaving.{raised_worked, stamp_short}
use borrow.Author.Rules.{rules}
use Rattle.intake.proofs.takes.raise_and_work.Goals as goal

pub put_work-requires : goal.put_work-requires
put_work-requires c = (search rules, search (rules, stamp_short))

pub returns : goal.returns
returns c = search (rules, raised_worked)
