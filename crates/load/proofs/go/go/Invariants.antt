-- `load::go::go` meets its contract: after each message, what is still to be taken gives what all of them give.
use Prim.Native.Nat.{◌-◌}
use lib.ListN.{length}
use Rattle.load.proofs.Going.{Along}
use Rattle.load.proofs.go.go.Given as goal

abbrev pub invariant-loop-n : goal.invariant-loop-n
invariant-loop-n l = Along l.q l.initial.table l.buffer l.initial.area l.table l.area l.place l.finished l.at

abbrev pub decreases-loop-n : goal.decreases-loop-n
decreases-loop-n l = length l.buffer - l.place
