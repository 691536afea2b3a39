-- The checks of a request, test by test in their order.
use mathlib.Core.Path.{◌≡◌, sym, ◌∙◌}
use mathlib.Core.Bool.{Bool, true, false, not, ◌&&◌, ◌||◌}
use mathlib.Core.List.{List}
use Prim.Native.Nat.{ℕ, ◌+◌, ◌≤◌, ◌<◌}
use native.Mathlib.Omega.{arith}
use lib.Dec.{eqb, ltb}
use mir.Syntax.{w64}
use mir.Val.{Fits}
use borrow.Author.Tests.{eqb-false, eq-eqb, ne_eqb, lt-ltb, le-ltb}
use Rattle.octets.proofs.Bools.{neither_r}
use Rattle.fix.specs.declared.frame.Part.{Part}
use Rattle.request.specs.declared.NewOrder.{NewOrder}
use Rattle.request.specs.declared.Replacement.{Replacement}
use Rattle.request.specs.declared.Cancellation.{Cancellation}
use Rattle.matching.specs.declared.Order.{Order}
use Rattle.matching.specs.Matching.{open_of}
use Rattle.matching.specs.Held.{Covered}
use Rattle.table.specs.Heading.{is_listed}
use Rattle.table.specs.Orders.{order_at, filled, record_with, record_for}
use Rattle.table.specs.Facts.{Market}
use Rattle.table.proofs.Same.{filled_few}
use Rattle.table.proofs.Lookups.{market_sound}
use Rattle.std.specs.Prelude.{Result, Ok, Err}
use Rattle.calls.specs.declared.OrderReason.TheVariants.{NoRecord, OtherCode, IdInUse, Stranger}
use Rattle.calls.specs.declared.ChangeReason.{ChangeReason}
use Rattle.calls.specs.declared.ChangeReason.TheVariants.{NothingOpen, NoSuchOrder, Unfit}
use Rattle.calls.specs.Checks.{text_of, holder, is_code, new_stands, change_stands, cancel_stands, and_above, replace_stands}
use Rattle.intake.proofs.Standing.{holder_few, holder_is, change_holds}

pub holder_of_is : (t message : List ℕ) (p : Part) (xs : List ℕ) (k : ℕ) → xs ≡ text_of message p → k ≡ holder t xs → k ≡ holder t (text_of message p)
holder_of_is t message p xs k e q = rw (← e) q

pub holder_among : (t message : List ℕ) (p : Part) (xs : List ℕ) (n k : ℕ) → n ≡ filled t → xs ≡ text_of message p → k ≡ record_with t n xs
    → k ≡ holder t (text_of message p)
holder_among t message p xs n k e q r = holder_of_is t message p xs k q (holder_is t xs n k e r)

pub stranger_is : (t : List ℕ) (m : ℕ) (f : Bool) → f ≡ is_listed t m → (ltb 0 m && not f) ≡ (ltb 0 m && not (is_listed t m))
stranger_is t m f e = rw e

-- ---- a new order

module _ (t message : List ℕ) (o : NewOrder) (xs : List ℕ) (q : xs ≡ text_of message o.code) (f : Bool) (p : f ≡ is_code t xs) where
  coded : not (is_code t (text_of message o.code)) ≡ not f
  coded = rw (← q, ← p)

  pub new_code : not f ≡ true → Err OtherCode ≡ new_stands t message o
  unfolding new_stands
  new_code h = rw (coded, h)

  module _ (a : not f ≡ false) (g : Bool) (r : g ≡ (ltb 0 o.terms.mpid && not (is_listed t o.terms.mpid))) where
    pub new_stranger : g ≡ true → Err Stranger ≡ new_stands t message o
    unfolding new_stands
    new_stranger h = rw (coded, a, ← r, h)

    module _ (b : g ≡ false) (k : ℕ) (s : k ≡ holder t (text_of message o.id)) where
      pub new_known : (k ≡ 0 → ⊥) → Err IdInUse ≡ new_stands t message o
      unfolding new_stands
      new_known h = rw (coded, a, ← r, b, ← s, ne_eqb k 0 h)

      module _ (d : k ≡ 0) (n : ℕ) (u : n ≡ record_for t) where
        pub new_full : n ≡ 0 → Err NoRecord ≡ new_stands t message o
        unfolding new_stands
        new_full h = rw (coded, a, ← r, b, ← s, eq-eqb k 0 d, ← u, eq-eqb n 0 h)

        pub new_good : (n ≡ 0 → ⊥) → Ok tt ≡ new_stands t message o
        unfolding new_stands
        new_good h = rw (coded, a, ← r, b, ← s, eq-eqb k 0 d, ← u, ne_eqb n 0 h)

-- ---- a change

-- the record that has 41, or none
pub holder_below : (t xs : List ℕ) (k : ℕ) → k ≡ holder t xs → k ≤ filled t
holder_below t xs k e = omega (arith, holder_few t xs)

pub below_256 : (t : List ℕ) (k : ℕ) → k ≤ filled t → k < 256
below_256 t k h = omega (arith, filled_few t)

module _ (t : List ℕ) (k : ℕ) (code cl_ord_id : List ℕ) (side : ℕ) (f : Bool) (p : f ≡ is_code t code) where
  pub change_none : (not f || eqb k 0) ≡ true → Err NoSuchOrder ≡ change_stands t k code cl_ord_id side
  unfolding change_stands
  change_none h = rw (← p, h)

  module _ (a : (not f || eqb k 0) ≡ false) (o : Order) (e : o ≡ order_at t k) where
    pub change_covered : Market t → k ≤ filled t → Covered o
    change_covered m h = rw e (market_sound t k m (omega (arith, eqb-false k 0 (neither_r (not f) (eqb k 0) a))) h).covered

    pub change_side : (side ≡ o.side → ⊥) → Err Unfit ≡ change_stands t k code cl_ord_id side
    unfolding change_stands
    change_side h = rw (← p, a, ← e, ne_eqb side o.side h)

    module _ (b : side ≡ o.side) (n : ℕ) (z : n ≡ open_of o) where
      pub change_shut : n ≡ 0 → Err NothingOpen ≡ change_stands t k code cl_ord_id side
      unfolding change_stands
      change_shut h = rw (← p, a, ← e, eq-eqb side o.side b, ← z, eq-eqb n 0 h)

      module _ (d : n ≡ 0 → ⊥) (h : ℕ) (y : h ≡ holder t cl_ord_id) where
        pub change_known : (h ≡ 0 → ⊥) → Err Unfit ≡ change_stands t k code cl_ord_id side
        unfolding change_stands
        change_known g = rw (← p, a, ← e, eq-eqb side o.side b, ← z, ne_eqb n 0 d, ← y, ne_eqb h 0 g)

        pub change_good : h ≡ 0 → Ok tt ≡ change_stands t k code cl_ord_id side
        unfolding change_stands
        change_good g = rw (← p, a, ← e, eq-eqb side o.side b, ← z, ne_eqb n 0 d, ← y, eq-eqb h 0 g)

-- ---- a cancel

pub cancel_is : (t message : List ℕ) (o : Cancellation) (k : ℕ) (xs ys : List ℕ) (r : Result (Unit {0}) ChangeReason) → k ≡ holder t (text_of message o.original)
    → xs ≡ text_of message o.code → ys ≡ text_of message o.id → r ≡ change_stands t k xs ys o.side → r ≡ cancel_stands t message o
unfolding cancel_stands
cancel_is t message o k xs ys r q a b e = rw (← q, ← a, ← b) e

-- ---- a replacement

module _ (t : List ℕ) (k quantity : ℕ) (o : Order) (e : o ≡ order_at t k) where
  pub above_fits : Market t → 1 ≤ k → k ≤ filled t → Fits w64 (o.executed + o.decremented)
  above_fits m l h =
      let z = market_sound t k m l h in
      rw e (omega (arith, z.covered, z.qty_high))

  pub above_yes : o.executed + o.decremented < quantity → Ok tt ≡ and_above t k quantity (Ok tt)
  above_yes x = rw (← e, lt-ltb _ _ x)

  pub above_no : quantity ≤ o.executed + o.decremented → Err Unfit ≡ and_above t k quantity (Ok tt)
  above_no x = rw (← e, le-ltb _ _ x)

module _ (t message : List ℕ) (o : Replacement) (k : ℕ) (xs ys : List ℕ) (s : Result (Unit {0}) ChangeReason) (q : k ≡ holder t (text_of message o.original))
    (a : xs ≡ text_of message o.code) (b : ys ≡ text_of message o.id) (e : s ≡ change_stands t k xs ys o.side) where
  above : replace_stands t message o ≡ and_above t k o.quantity s
  unfolding replace_stands
  above = rw (← q, ← a, ← b, ← e)

  pub replace_fails : (r : ChangeReason) → s ≡ Err r → Err r ≡ replace_stands t message o
  replace_fails r h = sym (above ∙ rw h)

  pub change_some : s ≡ Ok tt → 1 ≤ k
  change_some h = (change_holds t k xs ys o.side (sym e ∙ h)).known

  pub replace_above : s ≡ Ok tt → (r : Result (Unit {0}) ChangeReason) → r ≡ and_above t k o.quantity (Ok tt) → r ≡ replace_stands t message o
  replace_above h r x = x ∙ sym (above ∙ rw h)
