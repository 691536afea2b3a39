-- `octets::put_le` meets its contract: at each turn, putting what is left of the number gives the whole put.
use mathlib.Core.Path.{◌≡◌}
use Prim.Native.Nat.{◌+◌, ◌-◌}
use lib.ListN.{length}
use Rattle.octets.specs.Octets.{put, bytes_of}
use Rattle.octets.proofs.number.put_le.Given as goal

abbrev pub invariant-loop-k : goal.invariant-loop-k
invariant-loop-k l = (put l.t (l.p + l.k) (bytes_of (l.n - l.k) l.w) ≡ put l.initial.t l.p (bytes_of l.n l.v)) × (length l.t ≡ length l.initial.t)
