-- What the numbers and texts of a request may be, whatever the message: the ranges in which a market keeps its orders. A
-- theorem for each of the three requests.
use Rattle.std.specs.Prelude.{Option, Some, None, Ok}
use Prim.Native.Nat.{ℕ, ◌≤◌, ◌<◌}
use mathlib.Core.Path.{◌≡◌, refl, sym, subst}
use mathlib.Core.List.{List, [], ◌∷◌}
use mathlib.Core.Bool.{Bool, true, false, cond, not, ◌&&◌, ◌||◌, or-true}
use native.Mathlib.Omega.{arith}
use native.Mathlib.Nat.{suc-ne-zero}
use lib.Dec.{leb, eqb}
use borrow.Author.Tests.{le-leb, eqb-true}
use Rattle.octets.proofs.Bools.{split, not_both}
use Rattle.decimal.specs.declared.Instrument.{Instrument}
use Rattle.decimal.specs.declared.Instrument.TheVariants.{Bonds, Equities}
use Rattle.decimal.specs.Instruments.{highest}
use Rattle.fix.specs.declared.frame.Part.{Part}
use Rattle.fix.specs.declared.frame.Head.{Head}
use Rattle.fix.specs.Fields.{fields_of, find_tag}
use Rattle.fix.specs.Garbled.{head_of, body_part}
use Rattle.request.specs.declared.Kind.{Kind}
use Rattle.request.specs.declared.Kind.TheVariants.{NewOrder, Replacement, Cancel, Unknown}
use Rattle.request.specs.declared.NewOrder.{NewOrder as NewOrderAsked}
use Rattle.request.specs.declared.Replacement.{Replacement as ReplacementAsked}
use Rattle.request.specs.declared.Cancellation.{Cancellation}
use Rattle.request.specs.declared.Asked.TheVariants.{Enters, Replaces, Cancels}
use Rattle.request.specs.Session.{needed, one_of, belongs, listed, shape_of, first_failing, first_clashing, first_missing}
use Rattle.request.specs.Asks.{body_of, said_in, length_in, has_in, text_in, terms_in, request_in, refusal_of, asked_of}
use Rattle.request.proofs.Clashes.{minimum_below, minimum_tif, margin_apart}
use Rattle.request.proofs.Told.{Told, has_stands, lacks_nothing, found_tells, sides, cash_in, margin_in, stands_told, needed_has, needed_told, quantity_range, level_in_lem, mpid_range, minqty_range, side_in, tif_in, capacity_in, class_in, text_in_lem, Passed, request_passed}

-- 38 and 44 and 54, and the length of 11
pub record Sized (q : Instrument) (quantity level side id : ℕ) : Type 0 where
  pub quantity_low : 0 < quantity
  pub quantity_high : quantity < 1000000000
  pub level_low : 0 < level
  pub level_high : level ≤ highest q
  pub side_is : one_of side (sides q) ≡ true
  pub id_low : 0 < id
  pub id_high : id ≤ 32

no : ◌≡◌ {A = ℕ} 0 1 → ⊥
no z = suc-ne-zero 0 (sym z)

pub enters_kind : (q : Instrument) (k : Kind) (h : Head) (b : List ℕ) (from : ℕ) (o : NewOrderAsked) → request_in q k h b from ≡ Enters o → k ≡ NewOrder
unfolding request_in refusal_of
enters_kind q NewOrder h b from o e = refl
enters_kind q Replacement h b from o e = let z : ◌≡◌ {A = ℕ} 0 1 = cc in absurd (no z)
enters_kind q Cancel h b from o e = let z : ◌≡◌ {A = ℕ} 0 1 = cc in absurd (no z)
enters_kind q Unknown h b from o e = let z : ◌≡◌ {A = ℕ} 0 1 = cc in absurd (no z)

pub replaces_kind : (q : Instrument) (k : Kind) (h : Head) (b : List ℕ) (from : ℕ) (o : ReplacementAsked) → request_in q k h b from ≡ Replaces o → k ≡ Replacement
unfolding request_in refusal_of
replaces_kind q Replacement h b from o e = refl
replaces_kind q NewOrder h b from o e = let z : ◌≡◌ {A = ℕ} 0 1 = cc in absurd (no z)
replaces_kind q Cancel h b from o e = let z : ◌≡◌ {A = ℕ} 0 1 = cc in absurd (no z)
replaces_kind q Unknown h b from o e = let z : ◌≡◌ {A = ℕ} 0 1 = cc in absurd (no z)

pub cancels_kind : (q : Instrument) (k : Kind) (h : Head) (b : List ℕ) (from : ℕ) (o : Cancellation) → request_in q k h b from ≡ Cancels o → k ≡ Cancel
unfolding request_in refusal_of
cancels_kind q Cancel h b from o e = refl
cancels_kind q NewOrder h b from o e = let z : ◌≡◌ {A = ℕ} 0 1 = cc in absurd (no z)
cancels_kind q Replacement h b from o e = let z : ◌≡◌ {A = ℕ} 0 1 = cc in absurd (no z)
cancels_kind q Unknown h b from o e = let z : ◌≡◌ {A = ℕ} 0 1 = cc in absurd (no z)

-- ---- values that a message may leave out
module _ (q : Instrument) (b : List ℕ) (from : ℕ) (p : first_failing q NewOrder b from (fields_of b) ≡ Ok tt) where
  mpid_by : (f : Option Part) → find_tag 109 (fields_of b) ≡ f → said_in q b from 109 < 1000000
  unfolding said_in
  mpid_by (Some v) e = (mpid_range q b from (stands_told q NewOrder b from 109 p (record { start = v.start; len = v.len; at = e }))).1
  mpid_by None e = rw e (omega arith)

  minqty_by : (f : Option Part) → find_tag 110 (fields_of b) ≡ f → said_in q b from 110 < 1000000000
  unfolding said_in
  minqty_by (Some v) e = (minqty_range q b from (stands_told q NewOrder b from 110 p (record { start = v.start; len = v.len; at = e }))).1
  minqty_by None e = rw e (omega arith)

  account_by : (f : Option Part) → find_tag 1 (fields_of b) ≡ f → length_in b 1 ≤ 10
  unfolding length_in shape_of one_of
  account_by (Some v) e = (text_in_lem q b from 1 10 (omega arith) refl (stands_told q NewOrder b from 1 p (record { start = v.start; len = v.len; at = e }))).1
  account_by None e = rw e (omega arith)

-- a tag that is not there says 0
none_said : (q : Instrument) (b : List ℕ) (from t : ℕ) → has_in b t ≡ false → said_in q b from t ≡ 0
unfolding has_in said_in
none_said q b from t n = rw (lacks_nothing t (fields_of b) n)

-- a minimum goes with 59=3 and is not above 38; without one 110 says 0
module _ (q : Instrument) (b : List ℕ) (from : ℕ) where
  minimum_by : first_clashing q (has_in b) (said_in q b from) ≡ None → has_in b 59 ≡ true → has_in b 38 ≡ true → one_of (said_in q b from 59) (0 ∷ 3 ∷ 4 ∷ []) ≡ true
      → cond (eqb (said_in q b from 59) 3) (leb (said_in q b from 110) (said_in q b from 38)) (eqb (said_in q b from 110) 0) ≡ true
  minimum_by a tif quantity one =
      split (has_in b 110)
      (λ y. rw (minimum_tif q (has_in b) (said_in q b from) a y tif quantity one) (le-leb _ _ (minimum_below q (has_in b) (said_in q b from) a y tif quantity)))
      (λ n. rw (none_said q b from 110 n) (split (eqb (said_in q b from 59) 3) (λ y. rw y (le-leb 0 (said_in q b from 38) (omega arith))) (λ d. rw d)))

-- 38, 44, 54 and 11 of a body that has them all
sized_by : (q : Instrument) (b : List ℕ) (from : ℕ) → Told q b from 38 → Told q b from 44 → Told q b from 54 → Told q b from 11
    → Sized q (said_in q b from 38) (said_in q b from 44) (said_in q b from 54) (length_in b 11)
unfolding shape_of one_of
sized_by q b from n l s i =
    let t = text_in_lem q b from 11 32 (omega arith) refl i in
    record {
      quantity_low = (quantity_range q b from n).0;
      quantity_high = (quantity_range q b from n).1;
      level_low = (level_in_lem q b from l).0;
      level_high = (level_in_lem q b from l).1;
      side_is = side_in q b from s;
      id_low = t.0;
      id_high = t.1;
    }

-- ---- 544 and 8214
-- a bond order has neither; an equities order has a CashMargin, 1 to 3, and may have a MarginTransactionType, 1 or 2, but not beside 544=1
abbrev pub is_cash_of : Instrument → ℕ → ℕ → Bool
is_cash_of Bonds cash margin = eqb cash 0 && eqb margin 0
is_cash_of Equities cash margin = leb 1 cash && leb cash 3 && leb margin 2 && (not (eqb cash 1) || eqb margin 0)

-- a body that passes has no tag that its market does not list
module _ (q : Instrument) (b : List ℕ) (from : ℕ) (p : first_failing q NewOrder b from (fields_of b) ≡ Ok tt) (t : ℕ) (n : listed q t ≡ false) where
  unlisted_by : (f : Option Part) → find_tag t (fields_of b) ≡ f → said_in q b from t ≡ 0
  unfolding said_in
  unlisted_by (Some v) e = absurd (not_both (found_tells q NewOrder b from t v.start v.len (fields_of b) p e).means.listed_is n)
  unlisted_by None e = rw e

  unlisted_none : said_in q b from t ≡ 0
  unlisted_none = unlisted_by (find_tag t (fields_of b)) refl

-- which numbers these are
module _ (b : List ℕ) (from : ℕ) where
  cash_range : (c : ℕ) → one_of c (1 ∷ 2 ∷ 3 ∷ []) ≡ true → (1 ≤ c) × (c ≤ 3)
  unfolding one_of
  cash_range c h =
      split (eqb c 1) (λ y. omega (arith, eqb-true c 1 y))
      (λ d. split (eqb c 2) (λ y. omega (arith, eqb-true c 2 y))
      (λ e. split (eqb c 3) (λ y. omega (arith, eqb-true c 3 y)) (λ n. absurd (not_both (rw (d, e, n) at h) refl))))

  margin_range : (m : ℕ) → one_of m (1 ∷ 2 ∷ []) ≡ true → m ≤ 2
  unfolding one_of
  margin_range m h =
      split (eqb m 1) (λ y. omega (arith, eqb-true m 1 y))
      (λ d. split (eqb m 2) (λ y. omega (arith, eqb-true m 2 y)) (λ n. absurd (not_both (rw (d, n) at h) refl)))

  module _ (p : first_failing Equities NewOrder b from (fields_of b) ≡ Ok tt) (a : first_clashing Equities (has_in b) (said_in Equities b from) ≡ None)
      (has : has_in b 544 ≡ true) (told : Told Equities b from 544) where
    margin_small : (m : Bool) → has_in b 8214 ≡ m → said_in Equities b from 8214 ≤ 2
    unfolding has_in
    margin_small true e =
        let w = has_stands 8214 (fields_of b) e in
        margin_range (said_in Equities b from 8214) (margin_in b from (stands_told Equities NewOrder b from 8214 p w))
    margin_small false e = rw (none_said Equities b from 8214 e) (omega arith)

    margin_beside : (m : Bool) → has_in b 8214 ≡ m → (not (eqb (said_in Equities b from 544) 1) || eqb (said_in Equities b from 8214) 0) ≡ true
    margin_beside true e = rw (margin_apart (has_in b) (said_in Equities b from) a e has)
    margin_beside false e = rw (none_said Equities b from 8214 e, or-true)

    equities_cash : is_cash_of Equities (said_in Equities b from 544) (said_in Equities b from 8214) ≡ true
    equities_cash =
        let c = cash_range (said_in Equities b from 544) (cash_in b from told) in
        rw (le-leb 1 (said_in Equities b from 544) c.0, le-leb (said_in Equities b from 544) 3 c.1, le-leb (said_in Equities b from 8214) 2 (margin_small (has_in b 8214) refl))
        (margin_beside (has_in b 8214) refl)

cash_by : (q : Instrument) (b : List ℕ) (from : ℕ) → first_failing q NewOrder b from (fields_of b) ≡ Ok tt
    → first_clashing q (has_in b) (said_in q b from) ≡ None → first_missing (needed q NewOrder) (fields_of b) ≡ None → is_cash_of q (said_in q b from 544) (said_in q b from 8214) ≡ true
unfolding listed belongs one_of
cash_by Bonds b from p a c = rw (unlisted_none Bonds b from p 544 refl, unlisted_none Bonds b from p 8214 refl)
cash_by Equities b from p a c =
    equities_cash b from p a (needed_has Equities NewOrder b 544 c refl) (needed_told Equities NewOrder b from 544 p c refl)

-- 8060 is needed in each market
class_needed : (q : Instrument) → one_of 8060 (needed q NewOrder) ≡ true
unfolding one_of
class_needed Bonds = refl
class_needed Equities = refl

-- ---- a new order
pub record NewRight (q : Instrument) (o : NewOrderAsked) : Type 0 where
  pub sized : Sized q o.terms.quantity o.terms.level o.terms.side o.id.len
  pub tif_is : one_of o.terms.tif (0 ∷ 3 ∷ 4 ∷ []) ≡ true
  pub capacity_is : one_of o.terms.capacity (65 ∷ 80 ∷ []) ≡ true
  pub class_is : one_of o.terms.class (1 ∷ 3 ∷ 4 ∷ 5 ∷ 6 ∷ []) ≡ true
  pub mpid_high : o.terms.mpid < 1000000
  pub minqty_high : o.terms.minqty < 1000000000
  pub minqty_is : cond (eqb o.terms.tif 3) (leb o.terms.minqty o.terms.quantity) (eqb o.terms.minqty 0) ≡ true
  pub cash_is : is_cash_of q o.terms.cash o.terms.margin ≡ true
  pub account_high : o.account.len ≤ 10

new_right : (q : Instrument) (s : List ℕ) (o : NewOrderAsked) → Passed q s NewOrder (Enters o) → NewRight q o
unfolding request_in terms_in one_of
new_right q s o w =
    let b = body_of s in
    let from = (body_part s).start in
    let told : (t : ℕ) → one_of t (needed q NewOrder) ≡ true → Told q b from t = λ t m. needed_told q NewOrder b from t w.passes w.complete m in
    let has : (t : ℕ) → one_of t (needed q NewOrder) ≡ true → has_in b t ≡ true = λ t m. needed_has q NewOrder b t w.complete m in
    let same : record { time = (head_of s).time; id = text_in q b from 11; account = text_in q b from 1; code = text_in q b from 55; terms = terms_in q b from } ≡ o = cc in
    rw (← same)
    (record {
      sized = sized_by q b from (told 38 refl) (told 44 refl) (told 54 refl) (told 11 refl);
      tif_is = tif_in q b from (told 59 refl);
      capacity_is = capacity_in q b from (told 47 refl);
      class_is = class_in q b from (told 8060 (class_needed q));
      mpid_high = mpid_by q b from w.passes (find_tag 109 (fields_of b)) refl;
      minqty_high = minqty_by q b from w.passes (find_tag 110 (fields_of b)) refl;
      minqty_is = minimum_by q b from w.agrees (has 59 refl) (has 38 refl) (tif_in q b from (told 59 refl));
      cash_is = cash_by q b from w.passes w.agrees w.complete;
      account_high = account_by q b from w.passes (find_tag 1 (fields_of b)) refl;
    })

-- every new order that a message asks for is in range
pub enters_right : (q : Instrument) (venue port s : List ℕ) (o : NewOrderAsked) → asked_of q venue port s ≡ Enters o → NewRight q o
enters_right q venue port s o e =
    let w = request_passed q venue port s (Enters o) refl e in
    new_right q s o (subst (λ k. Passed q s k (Enters o)) (enters_kind q _ _ _ _ o w.asks) w)

-- ---- a replacement
replace_right : (q : Instrument) (s : List ℕ) (o : ReplacementAsked) → Passed q s Replacement (Replaces o) → Sized q o.quantity o.level o.side o.id.len
unfolding request_in one_of
replace_right q s o w =
    let b = body_of s in
    let from = (body_part s).start in
    let told : (t : ℕ) → one_of t (needed q Replacement) ≡ true → Told q b from t = λ t m. needed_told q Replacement b from t w.passes w.complete m in
    let same : record { time = (head_of s).time; id = text_in q b from 11; original = text_in q b from 41; code = text_in q b from 55; quantity = said_in q b from 38; level = said_in q b from 44; side = said_in q b from 54 } ≡ o = cc in
    rw (← same) (sized_by q b from (told 38 refl) (told 44 refl) (told 54 refl) (told 11 refl))

pub replaces_right : (q : Instrument) (venue port s : List ℕ) (o : ReplacementAsked) → asked_of q venue port s ≡ Replaces o
    → Sized q o.quantity o.level o.side o.id.len
replaces_right q venue port s o e =
    let w = request_passed q venue port s (Replaces o) refl e in
    replace_right q s o (subst (λ k. Passed q s k (Replaces o)) (replaces_kind q _ _ _ _ o w.asks) w)

-- ---- a cancel
cancel_right : (q : Instrument) (s : List ℕ) (o : Cancellation) → Passed q s Cancel (Cancels o)
    → (one_of o.side (sides q) ≡ true) × (0 < o.id.len) × (o.id.len ≤ 32)
unfolding request_in shape_of one_of
cancel_right q s o w =
    let b = body_of s in
    let from = (body_part s).start in
    let told : (t : ℕ) → one_of t (needed q Cancel) ≡ true → Told q b from t = λ t m. needed_told q Cancel b from t w.passes w.complete m in
    let i = text_in_lem q b from 11 32 (omega arith) refl (told 11 refl) in
    let same : record { time = (head_of s).time; id = text_in q b from 11; original = text_in q b from 41; code = text_in q b from 55; side = said_in q b from 54 } ≡ o = cc in
    rw (← same) (side_in q b from (told 54 refl), i.0, i.1)

pub cancels_right : (q : Instrument) (venue port s : List ℕ) (o : Cancellation) → asked_of q venue port s ≡ Cancels o
    → (one_of o.side (sides q) ≡ true) × (0 < o.id.len) × (o.id.len ≤ 32)
cancels_right q venue port s o e =
    let w = request_passed q venue port s (Cancels o) refl e in
    cancel_right q s o (subst (λ k. Passed q s k (Cancels o)) (cancels_kind q _ _ _ _ o w.asks) w)
