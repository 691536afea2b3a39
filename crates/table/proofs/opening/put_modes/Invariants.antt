-- `table::opening::put_modes` meets its contract: after k entries, putting the rest of them gives the whole put.
use Rattle.table.proofs.Settings.{ModesPut}
use Rattle.table.proofs.opening.put_modes.Given as goal

abbrev pub invariant-loop-k : goal.invariant-loop-k
invariant-loop-k l = ModesPut l.initial.t l.modes l.t l.k
