-- `octets::le_at` meets its contract: from the last byte down, what is read so far is the number of the bytes from k on.
use mathlib.Core.Path.{◌≡◌}
use Prim.Native.Nat.{◌+◌, ◌-◌, ◌^◌, ◌<◌, ◌≤◌}
use Rattle.octets.specs.Octets.{le_at}
use Rattle.octets.proofs.number.le_at.Given as goal

abbrev pub invariant-loop-k : goal.invariant-loop-k
invariant-loop-k l = (l.r ≡ le_at (l.n - l.k) l.t (l.p + l.k)) × (l.k ≤ l.n) × (l.r < 256 ^ (l.n - l.k))
