-- `table::opening::put_mpids` meets its contract: after k entries, putting the rest of them gives the whole put.
use Rattle.table.proofs.Settings.{MpidsPut}
use Rattle.table.proofs.opening.put_mpids.Given as goal

abbrev pub invariant-loop-k : goal.invariant-loop-k
invariant-loop-k l = MpidsPut l.initial.t l.mpids l.t l.k
