-- `octets::put_le` meets its contract: at each turn, putting what is left of the number gives the whole put.
use mathlib.Core.Path.{◌≡◌, sym, ap, ◌∙◌}
use Prim.Native.Nat.{ℕ, ◌+◌, ◌-◌}
use native.Mathlib.Omega.{arith}
use lib.ListN.{length-set}
use Rattle.octets.specs.Octets.{put, bytes_of}
use Rattle.octets.proofs.Places.{put_more}
use Rattle.octets.proofs.number.put_le.Goals as goal

pub loop-k-preserved : goal.loop-k-preserved
loop-k-preserved c = (put_more _ _ _ c.args.p _ c.loop-k-test.true ∙ c.loop-k.invariant.0, (simp length-set) ∙ c.loop-k.invariant.1)

pub returns : goal.returns
unfolding bytes_of put
returns c =
    let l = c.loop-k in
    let n = c.args.n in
    let e : n - l.k ≡ 0 = omega arith in
    sym (ap (λ (m : ℕ). put l.t (c.args.p + l.k) (bytes_of m l.w)) e) ∙ l.invariant.0
