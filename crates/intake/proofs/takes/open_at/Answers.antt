-- `intake::takes::open_at` meets its contract.
use Rattle.intake.proofs.Checking.{below_256}
use Rattle.intake.proofs.Doing.{open_covered, open_is}
use borrow.Author.Rules.{rules}
use Rattle.intake.proofs.takes.open_at.Goals as goal

pub load-requires : goal.load-requires
load-requires c = (search rules, search (rules, below_256))

pub open_of-requires : goal.open_of-requires
open_of-requires c = search (rules, open_covered)

pub returns : goal.returns
returns c = search (rules, open_is)
