-- `octets::put_zeros` meets its contract: at each turn, putting the zeros that are left gives the whole put.
use mathlib.Core.Path.{◌≡◌, sym, ap, ◌∙◌}
use Prim.Native.Nat.{ℕ, ◌+◌, ◌-◌}
use native.Mathlib.Omega.{arith}
use lib.ListN.{length-set, replicate}
use Rattle.octets.specs.Octets.{put}
use Rattle.octets.proofs.Zeros.{put_zero_more}
use Rattle.octets.proofs.zero.put_zeros.Goals as goal

pub loop-k-preserved : goal.loop-k-preserved
loop-k-preserved c = (put_zero_more _ _ _ c.args.p c.loop-k-test.true ∙ c.loop-k.invariant.0, (simp length-set) ∙ c.loop-k.invariant.1)

pub returns : goal.returns
unfolding put
returns c =
    let l = c.loop-k in
    let n = c.args.n in
    let e : n - l.k ≡ 0 = omega arith in
    sym (ap (λ (m : ℕ). put l.t (c.args.p + l.k) (replicate m 0)) e) ∙ l.invariant.0
