-- `table::look::least_own` meets its contract: x is the nearest of the notes passed.
use Rattle.table.proofs.Notes.{Nearing}
use Rattle.table.proofs.look.least_own.Given as goal

abbrev pub invariant-loop-i : goal.invariant-loop-i
invariant-loop-i l = Nearing l.turns l.all l.others l.end l.n l.x l.i
