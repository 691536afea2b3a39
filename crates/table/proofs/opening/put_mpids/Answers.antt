-- `table::opening::put_mpids` meets its contract: after k entries, putting the rest of them gives the whole put.
use native.Mathlib.Omega.{arith}
use Rattle.table.proofs.Settings.{mpids_none, mpids_more, mpids_all}
use Rattle.table.proofs.opening.put_mpids.Goals as goal

pub loop-k-init : goal.loop-k-init
loop-k-init c = mpids_none

pub loop-k-preserved : goal.loop-k-preserved
loop-k-preserved c = mpids_more c.loop-k.invariant _ (omega arith) c.put_le.ensures

pub shape_of-t : goal.shape_of-t
shape_of-t c = c.loop-k.invariant.size

pub returns : goal.returns
returns c = mpids_all c.loop-k.invariant (omega arith)
