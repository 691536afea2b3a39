-- `table::facing::rank` meets its contract: the firsts of the sixteens passed are noted.
use Rattle.table.specs.Faced.{Firsts}
use Rattle.table.proofs.facing.rank.Given as goal

abbrev pub invariant-loop-j : goal.invariant-loop-j
invariant-loop-j l = Firsts l.turns l.firsts l.j
