-- `write::move_to` meets its contract. The invariant: the first i bytes stand in their new place.
use Rattle.octets.proofs.Runs.{wrote_length}
use Rattle.report.proofs.Writing.{stays, move_none, move_place, move_from, move_fits, move_more, move_end}
use borrow.Author.Rules.{rules}
use Rattle.report.proofs.write.move_to.Goals as goal

pub returns-then-at-eq16 : goal.returns-then-at-eq16
returns-then-at-eq16 c = search (rules, stays)

pub loop-i-init : goal.loop-i-init
loop-i-init c = move_none _ _

pub bounds-out-i : goal.bounds-out-i
bounds-out-i c = search (rules, move_from)

pub overflow_add-out-in-loop-i : goal.overflow_add-out-in-loop-i
overflow_add-out-in-loop-i c = search (rules, move_fits)

pub bounds-out-at : goal.bounds-out-at
bounds-out-at c = search (rules, move_place)

pub loop-i-preserved : goal.loop-i-preserved
loop-i-preserved c = search (rules, move_more)

pub shape_of-out : goal.shape_of-out
shape_of-out c = search (rules, wrote_length)

pub returns : goal.returns
returns c = search (rules, move_end)
