-- `turns::call::last_step` meets its contract: after the step nothing is in work.
use borrow.Author.Rules.{rules}
use Rattle.turns.proofs.Going.{none_walked, last_busy, last_room, last_partner, last_walked}
use Rattle.turns.proofs.call.last_step.Goals as goal

pub returns-then-budget-rests : goal.returns-then-budget-rests
returns-then-budget-rests c = search (rules, none_walked)

pub step_with-told-requires : goal.step_with-told-requires
step_with-told-requires c = (search (rules, last_busy), search (rules, last_room), search (rules, last_partner))

pub returns : goal.returns
returns c = search (rules, last_walked)
