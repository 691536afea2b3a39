-- `turns::call::steps_among` meets its contract: after each turn, what is left to do gives what all the steps give.
use Rattle.table.specs.Heading.{work_of}
use Rattle.table.specs.Orders.{book_of}
use Rattle.table.specs.Faced.{Facing}
use Rattle.turns.proofs.Going.{Going}
use Rattle.turns.proofs.call.steps_among.Given as goal

abbrev pub invariant-loop-taken : goal.invariant-loop-taken
invariant-loop-taken l =
    Going l.initial.table l.initial.area l.budget l.table l.area l.at l.reports l.taken × Facing (book_of l.table) (work_of l.table) l.turns l.firsts l.m
