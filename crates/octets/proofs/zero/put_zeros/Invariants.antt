-- `octets::put_zeros` meets its contract: at each turn, putting the zeros that are left gives the whole put.
use mathlib.Core.Path.{◌≡◌}
use Prim.Native.Nat.{◌+◌, ◌-◌}
use lib.ListN.{length, replicate}
use Rattle.octets.specs.Octets.{put}
use Rattle.octets.proofs.zero.put_zeros.Given as goal

abbrev pub invariant-loop-k : goal.invariant-loop-k
invariant-loop-k l = (put l.t (l.p + l.k) (replicate (l.n - l.k) 0) ≡ put l.initial.t l.p (replicate l.n 0)) × (length l.t ≡ length l.initial.t)
