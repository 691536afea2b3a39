-- `turns::step::decrement` meets its contract, in its three cases.
use Rattle.turns.proofs.Happening.{equal_tells, less_tells, more_tells, equal_told, less_told, more_told}
use borrow.Author.Rules.{rules}
use Rattle.turns.proofs.step.decrement.Goals as goal

pub two-requires : goal.two-requires
two-requires c = (search (rules, equal_tells), search rules)

pub returns-then-newest-oldest : goal.returns-then-newest-oldest
returns-then-newest-oldest c = search (rules, equal_told)

pub two-requires-then-newest-oldest-2 : goal.two-requires-then-newest-oldest-2
two-requires-then-newest-oldest-2 c = (search (rules, less_tells), search rules)

pub returns-then-newest-oldest-2 : goal.returns-then-newest-oldest-2
returns-then-newest-oldest-2 c = search (rules, less_told)

pub two-requires-2 : goal.two-requires-2
two-requires-2 c = (search (rules, more_tells), search rules)

pub returns : goal.returns
returns c = search (rules, more_told)
