-- `octets::same` meets its contract: what is left to compare is the same exactly if the whole is.
use mathlib.Core.Path.{◌≡◌, refl, sym, ap, ◌∙◌}
use Prim.Native.Nat.{◌<◌}
use native.Mathlib.Omega.{arith}
use lib.ListN.{length}
use Rattle.octets.proofs.Parts.{not_same, same_more, same_stop, same_end}
use Rattle.octets.proofs.part.same.Goals as goal

pub returns-then-a-b : goal.returns-then-a-b
returns-then-a-b c = sym (not_same _ _ (λ e. c.if-a-b.true (ap length e)))

pub loop-i-init : goal.loop-i-init
loop-i-init c = refl

pub returns-then-a-i : goal.returns-then-a-i
returns-then-a-i c =
    let i = c.loop-i.i in
    let h : i < length c.args.b.now = omega arith in
    sym (sym c.loop-i.invariant ∙ same_stop _ _ i c.loop-i-test.true h c.if-a-i.true)

pub loop-i-preserved : goal.loop-i-preserved
loop-i-preserved c =
    let i = c.loop-i.i in
    let h : i < length c.args.b.now = omega arith in
    sym (same_more _ _ i c.loop-i-test.true h c.if-a-i.false) ∙ c.loop-i.invariant

pub returns : goal.returns
returns c =
    let a = c.args in
    let e : c.loop-i.i ≡ length a.a.now = omega arith in
    sym (same_end _ _ c.loop-i.i e (e ∙ c.if-a-b.false)) ∙ c.loop-i.invariant
