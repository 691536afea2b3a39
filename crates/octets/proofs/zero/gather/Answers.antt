-- `octets::gather` meets its contract: what is kept, and the rest of the list, are zero exactly if they were at the start.
use mathlib.Core.Path.{◌∙◌, ap}
use Prim.Native.Nat.{ℕ}
use native.Mathlib.Omega.{arith}
use lib.Dec.{eqb}
use lib.ListN.{length-set}
use Rattle.octets.proofs.Zeros.{greatest, kept_more}
use Rattle.octets.proofs.zero.gather.Goals as goal

pub loop-k-preserved : goal.loop-k-preserved
loop-k-preserved c =
    let l = c.loop-k in
    (kept_more _ _ _ _ _ (omega arith) (omega arith) (ap (λ (x : ℕ). eqb x 0) c.max.ensures ∙ greatest _ _) ∙ l.invariant.0, (simp length-set) ∙ l.invariant.1)
