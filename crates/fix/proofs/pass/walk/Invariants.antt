-- The one walk. Invariant: the fields before the cursor stand in the row and are right, and the rest of the message is left.
use Rattle.std.proofs.Common.{◌-◌, length}
use Rattle.fix.proofs.Rows.{Walking}
use Rattle.fix.proofs.pass.walk.Given as goal

abbrev pub invariant-loop-tag : goal.invariant-loop-tag
invariant-loop-tag l = Walking l.s l.row l.marks l.count l.c.at l.so_far l.from l.sum

abbrev pub decreases-loop-tag : goal.decreases-loop-tag
decreases-loop-tag l = length l.s - l.c.at
