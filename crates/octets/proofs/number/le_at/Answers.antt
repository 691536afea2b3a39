-- `octets::le_at` meets its contract: from the last byte down, what is read so far is the number of the bytes from k on.
use mathlib.Core.Path.{◌≡◌, sym, ap, ◌∙◌}
use Prim.Native.Nat.{ℕ, ◌+◌, ◌*◌, ◌-◌}
use native.Mathlib.Nat.{le_refl, sub_self, sub-zero, add-zero, lt_of_le_of_lt, le-add_left}
use native.Mathlib.Omega.{arith}
use lib.ListN.{get_or}
use Rattle.octets.specs.Octets.{Bytes}
use Rattle.octets.proofs.Places.{le_at_back, le_at_none, le_at_lt, le_at_room}
use Rattle.octets.proofs.number.le_at.Goals as goal

pub loop-k-init : goal.loop-k-init
loop-k-init c = (sym (le_at_none _ _ _), le_refl _, rw sub_self (omega arith))

pub overflow_mul-r : goal.overflow_mul-r
overflow_mul-r c =
    let a = c.args in
    let l = c.loop-k in
    let b : Bytes a.t.now = λ k. (c.type_inv.t k).fits in
    record { fits = lt_of_le_of_lt (le-add_left _ _) (le_at_room (a.n - l.k) l.r _ (omega arith) l.invariant.2 (b (a.p + (l.k - 1)))) }

pub overflow_add-r : goal.overflow_add-r
overflow_add-r c =
    let a = c.args in
    let l = c.loop-k in
    let b : Bytes a.t.now = λ k. (c.type_inv.t k).fits in
    record { fits = rw c.from.ensures (le_at_room (a.n - l.k) l.r _ (omega arith) l.invariant.2 (b _)) }

pub loop-k-preserved : goal.loop-k-preserved
loop-k-preserved c =
    let a = c.args in
    let l = c.loop-k in
    let b : Bytes a.t.now = λ k. (c.type_inv.t k).fits in
    let e =
    ap (λ (x : ℕ). x + 256 * l.r) c.from.ensures
    ∙ ap (λ (x : ℕ). get_or a.t.now (a.p + (l.k - 1)) 0 + 256 * x) l.invariant.0
    ∙ le_at_back a.n l.k a.t.now a.p (omega arith) l.invariant.1 in
    (e, omega arith, rw e (le_at_lt _ _ _ b))

pub returns : goal.returns
returns c =
    let l = c.loop-k in
    let z : l.k ≡ 0 = omega arith in
    (l.invariant.0 ∙ simp (z, sub-zero, add-zero), simp (z, sub-zero) at l.invariant.2)
