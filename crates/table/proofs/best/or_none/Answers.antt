-- `table::best::or_none` meets its contract.
use borrow.Author.Rules.{rules}
use Rattle.table.proofs.Fronts.{none_on, some_on}
use Rattle.table.proofs.best.or_none.Goals as goal

pub returns-then-b-eq0 : goal.returns-then-b-eq0
returns-then-b-eq0 c = search (rules, none_on)

pub returns : goal.returns
returns c = search (rules, some_on)
