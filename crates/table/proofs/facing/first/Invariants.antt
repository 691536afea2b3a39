-- `table::facing::first` meets its contract: c is the first of the sixteens passed.
use Rattle.table.proofs.Faced.{Finding}
use Rattle.table.proofs.facing.first.Given as goal

abbrev pub invariant-loop-j : goal.invariant-loop-j
invariant-loop-j l = Finding l.turns l.j l.c
