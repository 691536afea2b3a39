-- `table::look::note` meets its contract: of the records passed those that o meets are noted.
use native.Mathlib.Omega.{arith}
use Rattle.table.proofs.Lookups.{record_below}
use Rattle.table.proofs.Looks.{noted_none, looked_covered, looked_timely, noted_skip, noted_more, noted_room, noted_end}
use borrow.Author.Rules.{rules}
use Rattle.table.proofs.look.note.Goals as goal
use Rattle.table.proofs.look.note.Goals.{then-offers-gt0, else-offers-gt0}

pub loop-k-init : goal.loop-k-init
loop-k-init c = search (rules, noted_none)

pub load-r-requires : goal.load-r-requires
load-r-requires c = (c.requires.0.long, record_below _ _ _ c.requires.1 (omega arith))

pub offered-offers-requires : goal.offered-offers-requires
offered-offers-requires c = search (rules, looked_covered)

pub turn_of-requires : goal.turn_of-requires
turn_of-requires c = search (rules, looked_timely)

pub offset_bounds-turns-m : goal.offset_bounds-turns-m
offset_bounds-turns-m c = search (rules, noted_room)

pub bounds-turns-m : goal.bounds-turns-m
bounds-turns-m c = search (rules, noted_room)

pub offset_bounds-all-m : goal.offset_bounds-all-m
offset_bounds-all-m c = search (rules, noted_room)

pub bounds-all-m : goal.bounds-all-m
bounds-all-m c = search (rules, noted_room)

pub offset_bounds-others-m : goal.offset_bounds-others-m
offset_bounds-others-m c = search (rules, noted_room)

pub bounds-others-m : goal.bounds-others-m
bounds-others-m c = search (rules, noted_room)

pub overflow_add-m : goal.overflow_add-m
overflow_add-m c = search (rules, noted_room)

pub loop-k-preserved : goal.loop-k-preserved
loop-k-preserved c =
    elim c.if-offers-gt0.branch [
      | then-offers-gt0 w ↦ rw (w.turns-is, w.all-is, w.others-is, w.m-is) (search (rules, noted_more))
      | else-offers-gt0 w ↦ rw (w.turns-is, w.all-is, w.others-is, w.m-is) (search (rules, noted_skip))
    ]

pub returns : goal.returns
returns c = search (rules, noted_end)
