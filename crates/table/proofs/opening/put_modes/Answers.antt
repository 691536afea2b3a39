-- `table::opening::put_modes` meets its contract: after k entries, putting the rest of them gives the whole put.
use native.Mathlib.Omega.{arith}
use Rattle.table.proofs.Settings.{modes_none, modes_more, modes_all}
use Rattle.table.proofs.opening.put_modes.Goals as goal

pub loop-k-init : goal.loop-k-init
loop-k-init c = modes_none

pub overflow_cast-t : goal.overflow_cast-t
overflow_cast-t c = omega (arith, c.requires.2 c.loop-k.k)

pub loop-k-preserved : goal.loop-k-preserved
loop-k-preserved c = modes_more c.loop-k.invariant (omega arith)

pub shape_of-t : goal.shape_of-t
shape_of-t c = c.loop-k.invariant.size

pub returns : goal.returns
returns c = modes_all c.loop-k.invariant (omega arith)
