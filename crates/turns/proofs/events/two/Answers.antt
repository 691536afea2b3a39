-- `turns::events::two` meets its contract: the second report goes into the rest of the area, behind the first.
use Rattle.turns.proofs.Happening.{first_within, rest_room, second_telling, both_fit, two_told}
use borrow.Author.Rules.{rules}
use Rattle.turns.proofs.events.two.Goals as goal

pub slice_bounds-one-count : goal.slice_bounds-one-count
slice_bounds-one-count c = search (rules, first_within)

pub slice_bounds-one-start : goal.slice_bounds-one-start
slice_bounds-one-start c = search (rules, first_within)

pub one-second-requires : goal.one-second-requires
one-second-requires c = (search (rules, second_telling), search (rules, rest_room))

pub overflow_add-result : goal.overflow_add-result
overflow_add-result c = search (rules, both_fit)

pub returns : goal.returns
returns c = search (rules, two_told)
