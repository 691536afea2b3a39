-- The fields from the left. Invariant: the verdict on all is that on those left in the row, and the rows hold what the fields
-- before them say.
use Prim.Native.Nat.{◌-◌}
use Rattle.request.proofs.Gathering.{Seated}
use Rattle.request.proofs.body.gather.Given as goal

abbrev pub invariant-loop-f : goal.invariant-loop-f
invariant-loop-f l = Seated l.q l.kind l.b l.row l.from l.c.number l.rows.says l.rows.lens

abbrev pub decreases-loop-f : goal.decreases-loop-f
decreases-loop-f l = 341 - l.c.number
