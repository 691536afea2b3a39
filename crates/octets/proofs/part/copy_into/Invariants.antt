-- `octets::copy_into` meets its contract: after j bytes the first j are written.
use Prim.Native.Nat.{◌+◌}
use lib.ListN.{take}
use Rattle.octets.specs.Written.{Wrote}
use Rattle.octets.proofs.part.copy_into.Given as goal

abbrev pub invariant-loop-j : goal.invariant-loop-j
invariant-loop-j l = Wrote l.initial.out l.at (take l.j l.from) (l.at + l.j) l.out
