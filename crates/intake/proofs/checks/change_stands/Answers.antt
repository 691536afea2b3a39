-- `intake::checks::change_stands` meets its contract: the four checks in their order.
use Rattle.intake.proofs.Checking.{below_256, change_none, change_covered, change_side, change_shut, change_known, change_good}
use borrow.Author.Rules.{rules}
use Rattle.intake.proofs.checks.change_stands.Goals as goal

pub returns-then-is_code-k : goal.returns-then-is_code-k
returns-then-is_code-k c = search (rules, change_none)

pub load-o-requires : goal.load-o-requires
load-o-requires c = (search rules, search (rules, below_256))

pub returns-then-side-o : goal.returns-then-side-o
returns-then-side-o c = search (rules, change_side)

pub open_of-requires : goal.open_of-requires
open_of-requires c = search (rules, change_covered)

pub returns-then-open_of-eq0 : goal.returns-then-open_of-eq0
returns-then-open_of-eq0 c = search (rules, change_shut)

pub returns-then-holder-ne0 : goal.returns-then-holder-ne0
returns-then-holder-ne0 c = search (rules, change_known)

pub returns : goal.returns
returns c = search (rules, change_good)
