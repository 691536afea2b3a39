-- `table::facing::first_in` meets its contract: c is the first of the records passed.
use Prim.Native.Nat.{◌+◌}
use Rattle.table.specs.Faced.{Lowest}
use Rattle.table.proofs.facing.first_in.Given as goal

abbrev pub invariant-loop-i : goal.invariant-loop-i
invariant-loop-i l = Lowest l.turns l.a (l.a + l.i) l.c
