-- `octets::gather` meets its contract: what is kept, and the rest of the list, are zero exactly if they were at the start.
use mathlib.Core.Path.{◌≡◌}
use mathlib.Core.Bool.{◌&&◌}
use Prim.Native.Nat.{◌+◌}
use lib.ListN.{length, drop}
use Rattle.octets.specs.Octets.{all_zero}
use Rattle.octets.proofs.zero.gather.Given as goal

abbrev pub invariant-loop-k : goal.invariant-loop-k
invariant-loop-k l =
    ((all_zero l.most && all_zero (drop (l.p + l.k) l.t)) ≡ (all_zero l.initial.most && all_zero (drop l.p l.t))) × (length l.most ≡ length l.initial.most)
