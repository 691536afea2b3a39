-- `image::weigh` meets its contract: c columns are added up.
use mathlib.Core.Path.{◌≡◌}
use Prim.Native.Nat.{◌≤◌}
use lib.ListN.{length}
use Rattle.image.proofs.Columned.{Downs}
use Rattle.image.proofs.weigh.weigh.Given as goal

abbrev pub invariant-loop-c : goal.invariant-loop-c
invariant-loop-c l = (l.c ≤ 32) × (length l.sums ≡ 32) × (length l.turns ≡ 32) × Downs l.t l.p l.sums l.turns l.c
