-- `write::move_to` meets its contract. The invariant: the first i bytes stand in their new place.
use Prim.Native.Nat.{◌+◌}
use lib.ListN.{take}
use Rattle.octets.specs.Octets.{part_at}
use Rattle.octets.specs.Written.{Wrote}
use Rattle.report.proofs.write.move_to.Given as goal

abbrev pub invariant-loop-i : goal.invariant-loop-i
invariant-loop-i l = Wrote l.initial.out l.at (take l.i (part_at l.initial.out 16 l.n)) (l.at + l.i) l.out
