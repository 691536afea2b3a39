-- `intake::checks::quantity_stands` meets its contract.
use Rattle.intake.proofs.Checking.{below_256, above_fits, above_yes, above_no}
use borrow.Author.Rules.{rules}
use Rattle.intake.proofs.checks.quantity_stands.Goals as goal

pub load-o-requires : goal.load-o-requires
load-o-requires c = (search rules, search (rules, below_256))

pub overflow_add-o : goal.overflow_add-o
overflow_add-o c = search (rules, above_fits)

pub returns-then-o-quantity : goal.returns-then-o-quantity
returns-then-o-quantity c = search (rules, above_yes)

pub returns : goal.returns
returns c = search (rules, above_no)
