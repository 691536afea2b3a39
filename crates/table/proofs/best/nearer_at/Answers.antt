-- `table::best::nearer_at` meets its contract: an order of another side, and one that is not ahead, is passed by before its open quantity is
-- looked at.
use Rattle.table.proofs.Fronts.{nearer_other, nearer_far, nearer_yes, nearer_no}
use borrow.Author.Rules.{rules}
use Rattle.table.proofs.best.nearer_at.Goals as goal

pub returns-then-not-on_side_at : goal.returns-then-not-on_side_at
returns-then-not-on_side_at c = search (rules, nearer_other)

pub returns-then-not-c-ahead : goal.returns-then-not-c-ahead
returns-then-not-c-ahead c = search (rules, nearer_far)

pub returns-then-open_at : goal.returns-then-open_at
returns-then-open_at c = search (rules, nearer_yes)

pub returns : goal.returns
returns c = search (rules, nearer_no)
