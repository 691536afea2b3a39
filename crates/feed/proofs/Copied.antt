-- The row of a copy: it fills the slots of a copy, says of every tag that is kept what the report's row says, and is short.
use Prim.Native.Nat.{ℕ, zero, suc, ◌≤◌, ◌<◌}
use mathlib.Core.Path.{◌≡◌, refl, sym, ap, ◌∙◌, subst}
use mathlib.Core.Bool.{Bool, true, false, cond, not, ◌&&◌, ◌||◌, false≢true}
use mathlib.Core.List.{List, [], ◌∷◌, ◌++◌, map}
use native.Mathlib.Omega.{arith}
use native.Mathlib.Nat.{le_trans}
use lib.Dec.{ltb, leb, eqb, lit≤}
use lib.ListN.{length, take, drop, get_or}
use lib.Seq.{take-length, get_or-take}
use borrow.Author.Tests.{eqb-true, eqb-false, leb-true, le-leb, le-ltb, ne_eqb, not-true}
use Rattle.octets.specs.Octets.{part_at}
use Rattle.octets.proofs.Bools.{split, both_l, both_r}
use Rattle.decimal.specs.Writing.{decimal}
use Rattle.decimal.specs.Canonical.{bare_of, within}
use Rattle.decimal.proofs.RoundTrip.{bare_back}
use Rattle.decimal.specs.declared.Instrument.{Instrument}
use Rattle.decimal.specs.declared.Instrument.TheVariants.{Bonds, Equities}
use Rattle.report.specs.declared.Value.{Value}
use Rattle.report.specs.declared.Value.TheVariants.{Absent, Number, Char, Sent, Stored}
use Rattle.report.specs.declared.Field.{Field}
use Rattle.report.specs.declared.Shape.{Shape}
use Rattle.report.specs.declared.Shape.TheVariants as shape
use Rattle.report.specs.declared.Slot.{Slot}
use Rattle.report.specs.declared.Kind.{Kind}
use Rattle.report.specs.declared.Kind.TheVariants.{Accepted, Replaced, Canceled, Trade, Rejected, CancelReject, SessionReject, Refused}
use Rattle.report.specs.Fields.{field, is_absent, label, row_bytes}
use Rattle.report.specs.Frame.{trailer}
use Rattle.report.specs.Shapes.{number_in, all_from, text_in, one_in, value_in}
use Rattle.report.specs.Slots.{unused, accepted_slots, replaced_slots, canceled_slots, trade_slots, rejected_slots, cancel_reject_slots, session_reject_slots, slots_of}
use Rattle.report.specs.Reports.{one_reason, agreed}
use Rattle.report.proofs.Taken.{Proper}
use Rattle.report.proofs.Back.{Fit, Fits, widths, fits_short}
use Rattle.feed.specs.Rows.{with797, shown_row, copy_value, copy_field, yes797, copy_row, longest, slot109, copy_slot, slot797, copy_slots}
use Rattle.feed.specs.Settings.{is_identifier, copied_by}
use Rattle.feed.specs.Kept.{at_tag, is_kept}
use Rattle.feed.proofs.Filled.{Filled, filled_none, filled_some, filled_skip, filled_front, distinct, tells, filled_fits}
use Rattle.feed.proofs.Shown.{Tagged, filled_tagged, tag_at, has, shown_at, shown_slot, shown_slots, shown_fills}
use Rattle.std.proofs.Common.{Some}

-- ---- the slots of 34 and 17 take every number of a feed
abbrev pub numbers : Shape → Bool
numbers shape.Nothing = false
numbers (shape.OneOf a b c d e) = false
numbers (shape.Range least most) = leb least 1 && leb 999999999 most
numbers (shape.Listed a b c d e f g h) = false
numbers (shape.Exact w x y z) = false
numbers shape.OrderId = false
numbers (shape.Text most low) = false
numbers shape.Digits = false
numbers shape.Time = false
numbers (shape.Level q) = false
numbers (shape.Average q) = false

abbrev pub ranged_one : Slot → Bool
ranged_one slot = not (eqb slot.tag 34 || eqb slot.tag 17) || numbers slot.shape

abbrev pub ranged : List Slot → Bool
ranged [] = true
ranged (slot ∷ slots) = ranged_one slot && ranged slots

-- the slots of a copy, with the text of 109 put in last
unfoldable pub text_slot : Instrument → Slot → Slot
text_slot q slot = cond (eqb slot.tag 109) (slot109 q) slot

kept_slot : (q : Instrument) (slot : Slot) → eqb slot.tag 109 ≡ false → text_slot q slot ≡ slot
unfolding text_slot
kept_slot q slot a = rw a

-- ---- a copy, of a report s with the text client for 109
module _ (q : Instrument) (s client : List ℕ) (n : ℕ) where
  -- the feed's number, the text and Y are taken
  pub record Given : Type 0 where
    pub low : 1 ≤ n
    pub high : n ≤ 999999999
    pub text : is_identifier client ≡ true
    pub short : length client ≤ longest q

  module _ (g : Given) where
    number_fits : (slot : Slot) → numbers slot.shape ≡ true → Fit s client slot (field slot.tag (Number n))
    number_fits slot e =
        let r = by slot.shape e in
        record { tag_is = refl; here = refl; proper = r.0; picked = r.1 }
      where
        by : (f : Shape) → numbers f ≡ true → Proper f × ((place : ℕ) → value_in f place (decimal n) ≡ Some (Number n))
        by shape.Nothing e = absurd (false≢true e)
        by (shape.OneOf a b c d x) e = absurd (false≢true e)
        by (shape.Range least most) e =
            let a = leb-true least 1 (both_l (leb least 1) (leb 999999999 most) e) in
            let b = leb-true 999999999 most (both_r (leb least 1) (leb 999999999 most) e) in
            let said : within least most (bare_of 9 (decimal n)) ≡ Some n =
            rw (bare_back 8 n (omega (arith, g.high)) (omega (arith, g.high))) (simp (le-leb least n (omega (arith, g.low)), le-leb n most (omega (arith, g.high)))) in
            (tt, λ place. ap number_in said)
        by (shape.Listed a b c d x f h i) e = absurd (false≢true e)
        by (shape.Exact w x y z) e = absurd (false≢true e)
        by shape.OrderId e = absurd (false≢true e)
        by (shape.Text most low) e = absurd (false≢true e)
        by shape.Digits e = absurd (false≢true e)
        by shape.Time e = absurd (false≢true e)
        by (shape.Level o) e = absurd (false≢true e)
        by (shape.Average o) e = absurd (false≢true e)

    client_is : part_at client 0 (length client) ≡ client
    unfolding part_at
    client_is = take-length client

    picked : (place : ℕ) → eqb (length client) 0 ≡ false → all_from 33 client ≡ true
        → text_in (longest q) 33 place (part_at client 0 (length client)) ≡ Some (Sent place (length (part_at client 0 (length client))))
    unfolding text_in
    picked place a b = rw (client_is, a, le-ltb (longest q) (length client) g.short, b)

    text_fits : (slot : Slot) → eqb slot.tag 109 ≡ true → Fit s client (text_slot q slot) (field slot.tag (Stored 0 (length client)))
    unfolding text_slot is_identifier
    text_fits slot e =
        let a = not-true (eqb (length client) 0) (both_l (not (eqb (length client) 0)) (all_from 33 client) g.text) in
        let b = both_r (not (eqb (length client) 0)) (all_from 33 client) g.text in
        rw e
        (record {
          tag_is = eqb-true slot.tag 109 e;
          here = refl;
          proper = omega arith;
          picked = λ place. picked place a b;
        })

    yes_fits : Fit s client slot797 yes797
    unfolding one_in
    yes_fits =
        record {
          tag_is = refl;
          here = refl;
          proper = ((λ q. omega (arith, q)), (λ q. omega (arith, q)), (λ q. omega (arith, q)), (λ q. omega (arith, q)), (λ q. omega (arith, q)));
          picked = λ place. refl;
        }

    -- a field of another tag stays, one of these is filled anew
    copied_is : (f : Field) (tag : ℕ) → f.tag ≡ tag → copy_field n (length client) f ≡ field tag (copy_value n (length client) tag f.value)
    unfolding copy_field
    copied_is f tag e = ap (λ (t : ℕ). field t (copy_value n (length client) t f.value)) e

    change_as : (slot : Slot) (v : Value) (slots : List Slot) (fs : List Field) → ranged_one slot ≡ true → Filled s client slots fs
        → (eqb slot.tag 109 ≡ false → Filled s client (slot ∷ slots) (field slot.tag v ∷ fs))
        → Filled s client (text_slot q slot ∷ slots) (field slot.tag (copy_value n (length client) slot.tag v) ∷ fs)
    unfolding copy_value
    change_as slot v slots fs r p whole =
        split (eqb slot.tag 109)
        (λ a.
        let z = eqb-true slot.tag 109 a in
        let x : eqb slot.tag 34 ≡ false = ap (λ (t : ℕ). eqb t 34) z in
        let y : eqb slot.tag 17 ≡ false = ap (λ (t : ℕ). eqb t 17) z in
        rw (x, y, a) (filled_some (text_fits slot a) p))
        (λ a.
        let k = kept_slot q slot a in
        split (eqb slot.tag 34)
        (λ x. rw (x, k) (filled_some (number_fits slot (rw x at r)) p))
        (λ x. split (eqb slot.tag 17)
        (λ y. rw (x, y, k) (filled_some (number_fits slot (rw (x, y) at r)) p))
        (λ y. rw (x, y, a, k) (whole a))))

    change_one : (slot : Slot) (f : Field) (slots : List Slot) (fs : List Field) → f.tag ≡ slot.tag → ranged_one slot ≡ true → Filled s client slots fs
        → Filled s client (slot ∷ slots) (f ∷ fs) → Filled s client (text_slot q slot ∷ slots) (copy_field n (length client) f ∷ fs)
    change_one slot f slots fs t r p whole =
        subst (λ (h : Field). Filled s client (text_slot q slot ∷ slots) (h ∷ fs)) (sym (copied_is f slot.tag t))
        (change_as slot f.value slots fs r p (λ a. subst (λ (h : Field). Filled s client (slot ∷ slots) (h ∷ fs)) (same f slot.tag t) whole))
      where
        same : (f : Field) (tag : ℕ) → f.tag ≡ tag → f ≡ field tag f.value
        same f tag e = λ j. record { tag = e j; value = f.value }

    -- one entry more: the same test for the slot and for its field
    fill_one : (slot : Slot) (f : Field) (ss : List Slot) (gs : List Field) → f.tag ≡ slot.tag → Filled s client (slot ∷ ss) (f ∷ gs)
        → (ltb 797 slot.tag ≡ false → Filled s client (text_slot q slot ∷ with797 (λ x. x.tag) (text_slot q) slot797 ss) (copy_field n (length client) f ∷ with797 (λ h. h.tag) (copy_field n (length client)) yes797 gs))
        → Filled s client (with797 (λ x. x.tag) (text_slot q) slot797 (slot ∷ ss)) (with797 (λ h. h.tag) (copy_field n (length client)) yes797 (f ∷ gs))
    unfolding with797
    fill_one slot f ss gs tag whole rest =
        split (ltb 797 slot.tag)
        (λ t. let u : ltb 797 f.tag ≡ true = ap (ltb 797) tag ∙ t in rw (t, u) (filled_some yes_fits whole))
        (λ t. let u : ltb 797 f.tag ≡ false = ap (ltb 797) tag ∙ t in rw (t, u) (rest t))

    pub copy_fills : (slots : List Slot) (fs : List Field) → Filled s client slots fs → ranged slots ≡ true
        → Filled s client (with797 (λ x. x.tag) (text_slot q) slot797 slots) (with797 (λ f. f.tag) (copy_field n (length client)) yes797 fs)
    unfolding with797
    copy_fills slots fs filled_none r = filled_some yes_fits filled_none
    copy_fills slots fs (filled_some {slot} {f} {slots = ss} {fs = gs} p x) r =
        let rest = copy_fills ss gs x (both_r (ranged_one slot) (ranged ss) r) in
        fill_one slot f ss gs p.tag_is (filled_some p x) (λ t. change_one slot f _ _ p.tag_is (both_l (ranged_one slot) (ranged ss) r) rest (filled_some p rest))
    copy_fills slots fs (filled_skip {slot} {f} {slots = ss} {fs = gs} e o x) r =
        let tag : f.tag ≡ slot.tag = ap (λ (h : Field). h.tag) e in
        let rest = copy_fills ss gs x (both_r (ranged_one slot) (ranged ss) r) in
        fill_one slot f ss gs tag (filled_skip e o x) (λ t. change_one slot f _ _ tag (both_l (ranged_one slot) (ranged ss) r) rest (filled_skip e o rest))

-- ---- the tables, kind by kind
pub kinds_ranged : (q : Instrument) (k : Kind) → ranged (take 35 (shown_slots q k)) ≡ true
unfolding shown_slot accepted_slots replaced_slots canceled_slots trade_slots rejected_slots cancel_reject_slots session_reject_slots
kinds_ranged Bonds Accepted = refl
kinds_ranged Bonds Replaced = refl
kinds_ranged Bonds Canceled = refl
kinds_ranged Bonds Trade = refl
kinds_ranged Bonds Rejected = refl
kinds_ranged Bonds CancelReject = refl
kinds_ranged Bonds SessionReject = refl
kinds_ranged Bonds Refused = refl
kinds_ranged Equities Accepted = refl
kinds_ranged Equities Replaced = refl
kinds_ranged Equities Canceled = refl
kinds_ranged Equities Trade = refl
kinds_ranged Equities Rejected = refl
kinds_ranged Equities CancelReject = refl
kinds_ranged Equities SessionReject = refl
kinds_ranged Equities Refused = refl

kinds_two : (q : Instrument) (k : Kind) → with797 (λ x. x.tag) (text_slot q) slot797 (take 35 (shown_slots q k)) ≡ copy_slots q (slots_of q k)
unfolding copy_slots with797 copy_slot text_slot shown_slot accepted_slots replaced_slots canceled_slots trade_slots rejected_slots cancel_reject_slots session_reject_slots
kinds_two Bonds Accepted = refl
kinds_two Bonds Replaced = refl
kinds_two Bonds Canceled = refl
kinds_two Bonds Trade = refl
kinds_two Bonds Rejected = refl
kinds_two Bonds CancelReject = refl
kinds_two Bonds SessionReject = refl
kinds_two Bonds Refused = refl
kinds_two Equities Accepted = refl
kinds_two Equities Replaced = refl
kinds_two Equities Canceled = refl
kinds_two Equities Trade = refl
kinds_two Equities Rejected = refl
kinds_two Equities CancelReject = refl
kinds_two Equities SessionReject = refl
kinds_two Equities Refused = refl

pub kinds_distinct : (q : Instrument) (k : Kind) → distinct (copy_slots q (slots_of q k)) ≡ true
unfolding copy_slots with797 copy_slot accepted_slots replaced_slots canceled_slots trade_slots rejected_slots cancel_reject_slots session_reject_slots label decimal
kinds_distinct Bonds Accepted = refl
kinds_distinct Bonds Replaced = refl
kinds_distinct Bonds Canceled = refl
kinds_distinct Bonds Trade = refl
kinds_distinct Bonds Rejected = refl
kinds_distinct Bonds CancelReject = refl
kinds_distinct Bonds SessionReject = refl
kinds_distinct Bonds Refused = refl
kinds_distinct Equities Accepted = refl
kinds_distinct Equities Replaced = refl
kinds_distinct Equities Canceled = refl
kinds_distinct Equities Trade = refl
kinds_distinct Equities Rejected = refl
kinds_distinct Equities CancelReject = refl
kinds_distinct Equities SessionReject = refl
kinds_distinct Equities Refused = refl

-- no copy's fields take more than this
copy_widths : (q : Instrument) (k : Kind) → widths (copy_slots q (slots_of q k)) ≤ 489
unfolding copy_slots with797 copy_slot accepted_slots replaced_slots canceled_slots trade_slots rejected_slots cancel_reject_slots session_reject_slots label decimal
copy_widths Bonds Accepted = lit≤ tt
copy_widths Bonds Replaced = lit≤ tt
copy_widths Bonds Canceled = lit≤ tt
copy_widths Bonds Trade = lit≤ tt
copy_widths Bonds Rejected = lit≤ tt
copy_widths Bonds CancelReject = lit≤ tt
copy_widths Bonds SessionReject = lit≤ tt
copy_widths Bonds Refused = lit≤ tt
copy_widths Equities Accepted = lit≤ tt
copy_widths Equities Replaced = lit≤ tt
copy_widths Equities Canceled = lit≤ tt
copy_widths Equities Trade = lit≤ tt
copy_widths Equities Rejected = lit≤ tt
copy_widths Equities CancelReject = lit≤ tt
copy_widths Equities SessionReject = lit≤ tt
copy_widths Equities Refused = lit≤ tt

-- ---- the row of a copy of each kind
module _ (q : Instrument) (s client : List ℕ) (n : ℕ) (g : Given q s client n) (k : Kind) (fs : List Field) (p : Filled s client (slots_of q k) fs) where
  pub row_fills : Filled s client (copy_slots q (slots_of q k)) (copy_row n (length client) fs)
  unfolding copy_row
  row_fills =
      subst (λ (slots : List Slot). Filled s client slots (copy_row n (length client) fs)) (kinds_two q k)
      (copy_fills q s client n g (take 35 (shown_slots q k)) (take 35 (shown_row fs)) (filled_front s client 35 (shown_slots q k) (shown_row fs) (shown_fills s client q k fs p)) (kinds_ranged q k))

  pub row_fits : (sum : ℕ) → Fits s client (trailer sum) (copy_slots q (slots_of q k)) (copy_row n (length client) fs)
  row_fits sum = filled_fits s client sum (copy_slots q (slots_of q k)) (copy_row n (length client) fs) row_fills (kinds_distinct q k)

  pub row_short : length (row_bytes s client (copy_row n (length client) fs)) ≤ 489
  row_short = le_trans (fits_short s client (trailer 0) (copy_slots q (slots_of q k)) (copy_row n (length client) fs) (row_fits 0)) (copy_widths q k)

-- ---- what is kept
module _ {B : Type 0} (h : Value → B) (none : B) (g : ℕ) (kept : is_kept false g ≡ true) (n w : ℕ) where
  other : (eqb g 0 ≡ false) × (eqb g 34 ≡ false) × (eqb g 17 ≡ false) × (eqb g 109 ≡ false) × (eqb g 797 ≡ false)
  unfolding is_kept
  other =
      five (eqb g 0) (eqb g 34) (eqb g 17) (eqb g 109) (eqb g 797)
      (both_l (not (eqb g 0) && not (eqb g 34) && not (eqb g 17) && not (eqb g 109) && not (eqb g 797)) (not ((eqb g 59 || eqb g 110) && false)) kept)
    where
      five : (a b c d e : Bool) → (not a && not b && not c && not d && not e) ≡ true → (a ≡ false) × (b ≡ false) × (c ≡ false) × (d ≡ false) × (e ≡ false)
      five false false false false false z = (refl, refl, refl, refl, refl)
      five true b c d e z = absurd (false≢true z)
      five false true c d e z = absurd (false≢true z)
      five false false true d e z = absurd (false≢true z)
      five false false false true e z = absurd (false≢true z)
      five false false false false true z = absurd (false≢true z)

  not_797 : eqb 797 g ≡ false
  not_797 = ne_eqb 797 g (λ z. eqb-false g 797 other.4 (sym z))

  one_kept : (f : Field) → eqb f.tag g ≡ true → (copy_field n w f).value ≡ f.value
  unfolding copy_field copy_value
  one_kept f e = let z = eqb-true f.tag g e in rw (z, other.1, other.2, other.3)

  same_kept : (f : Field) (x y : B) → x ≡ y → (b : Bool) → eqb f.tag g ≡ b → cond b (h (copy_field n w f).value) x ≡ cond b (h f.value) y
  same_kept f x y e true t = ap h (one_kept f t)
  same_kept f x y e false t = e

  pub woven_kept : (fs : List Field) → at_tag h none g (with797 (λ f. f.tag) (copy_field n w) yes797 fs) ≡ at_tag h none g fs
  unfolding with797 copy_field
  woven_kept [] = rw not_797
  woven_kept (f ∷ fs) =
      split (ltb 797 f.tag)
      (λ t. rw (t, not_797))
      (λ t. rw t (same_kept f _ _ (woven_kept fs) (eqb f.tag g) refl))

  -- behind the row's last field there is none
  pub last_kept : (fs : List Field) → at_tag h none g (fs ++ (field 0 Absent ∷ [])) ≡ at_tag h none g fs
  last_kept [] = let z : eqb 0 g ≡ false = ne_eqb 0 g (λ q. eqb-false g 0 other.0 (sym q)) in rw z
  last_kept (f ∷ fs) = ap (cond (eqb f.tag g) (h f.value)) (last_kept fs)

-- ---- what is not kept: 34, 17 and 109, where they stand in front of 797's place, and 797
abbrev pub has_not797 : List Slot → Bool
has_not797 [] = true
has_not797 (slot ∷ slots) = cond (ltb 797 slot.tag) true (not (eqb slot.tag 797) && has_not797 slots)

module _ {B : Type 0} (h : Value → B) (none : B) (n w : ℕ) where
  pub woven_new : (g : ℕ) (v : Value) → ((old : Value) → copy_value n w g old ≡ v) → (slots : List Slot) (fs : List Field) → Tagged slots fs → has g slots ≡ true
      → at_tag h none g (with797 (λ f. f.tag) (copy_field n w) yes797 fs) ≡ h v
  unfolding with797 copy_field
  woven_new g v c [] fs p e = absurd (false≢true e)
  woven_new g v c (slot ∷ slots) [] p e = absurd p
  woven_new g v c (slot ∷ slots) (f ∷ fs) p e =
      rw p.0
      (split (ltb 797 slot.tag)
      (λ t. let z : false ≡ true = rw t at e in absurd (false≢true z))
      (λ t. rw t
      (split (eqb slot.tag g)
      (λ u. rw (u, eqb-true slot.tag g u) (ap h (c f.value)))
      (λ u. rw u (woven_new g v c slots fs p.1 (rw (t, u) at e))))))

  pub woven_797 : (slots : List Slot) (fs : List Field) → Tagged slots fs → has_not797 slots ≡ true
      → at_tag h none 797 (with797 (λ f. f.tag) (copy_field n w) yes797 fs) ≡ h (Char 89)
  unfolding with797 copy_field
  woven_797 slots [] p e = refl
  woven_797 [] (f ∷ fs) p e = absurd p
  woven_797 (slot ∷ slots) (f ∷ fs) p e =
      rw p.0
      (split (ltb 797 slot.tag)
      (λ t. rw t)
      (λ t.
      let z : (not (eqb slot.tag 797) && has_not797 slots) ≡ true = rw t at e in
      let u = not-true (eqb slot.tag 797) (both_l (not (eqb slot.tag 797)) (has_not797 slots) z) in
      rw (t, u) (woven_797 slots fs p.1 (both_r (not (eqb slot.tag 797)) (has_not797 slots) z))))

-- ---- more of the tables: of every kind, and of those that are copied
pub report_distinct : (q : Instrument) (k : Kind) → distinct (slots_of q k) ≡ true
unfolding accepted_slots replaced_slots canceled_slots trade_slots rejected_slots cancel_reject_slots session_reject_slots label decimal
report_distinct Bonds Accepted = refl
report_distinct Bonds Replaced = refl
report_distinct Bonds Canceled = refl
report_distinct Bonds Trade = refl
report_distinct Bonds Rejected = refl
report_distinct Bonds CancelReject = refl
report_distinct Bonds SessionReject = refl
report_distinct Bonds Refused = refl
report_distinct Equities Accepted = refl
report_distinct Equities Replaced = refl
report_distinct Equities Canceled = refl
report_distinct Equities Trade = refl
report_distinct Equities Rejected = refl
report_distinct Equities CancelReject = refl
report_distinct Equities SessionReject = refl
report_distinct Equities Refused = refl

pub last_unused : (q : Instrument) (k : Kind) → drop 35 (shown_slots q k) ≡ unused ∷ []
unfolding shown_slot accepted_slots replaced_slots canceled_slots trade_slots rejected_slots cancel_reject_slots session_reject_slots
last_unused Bonds Accepted = refl
last_unused Bonds Replaced = refl
last_unused Bonds Canceled = refl
last_unused Bonds Trade = refl
last_unused Bonds Rejected = refl
last_unused Bonds CancelReject = refl
last_unused Bonds SessionReject = refl
last_unused Bonds Refused = refl
last_unused Equities Accepted = refl
last_unused Equities Replaced = refl
last_unused Equities Canceled = refl
last_unused Equities Trade = refl
last_unused Equities Rejected = refl
last_unused Equities CancelReject = refl
last_unused Equities SessionReject = refl
last_unused Equities Refused = refl

-- 35 stands first and 150 is told; 34, 17, 59, 109 and 110 stand in front of 797's place, and 797 is not among them
abbrev pub begins : List Slot → Bool
begins [] = false
begins (slot ∷ slots) = not slot.optional

pub record Copyable (q : Instrument) (slots : List Slot) : Type 0 where
  pub type_told : tells 35 slots ≡ true
  pub status_told : tells 150 slots ≡ true
  pub copy_type : tells 35 (copy_slots q slots) ≡ true
  pub copy_status : tells 150 (copy_slots q slots) ≡ true
  pub first : begins (copy_slots q slots) ≡ true
  pub has_34 : has 34 (take 35 (map shown_slot slots)) ≡ true
  pub has_17 : has 17 (take 35 (map shown_slot slots)) ≡ true
  pub has_109 : has 109 (take 35 (map shown_slot slots)) ≡ true
  pub not_797 : has_not797 (take 35 (map shown_slot slots)) ≡ true
  pub has_59 : has 59 slots ≡ true
  pub has_110 : has 110 slots ≡ true

pub kinds_copyable : (q : Instrument) (k : Kind) → copied_by 2 k ≡ true → Copyable q (slots_of q k)
unfolding copy_slots with797 copy_slot shown_slot accepted_slots replaced_slots canceled_slots trade_slots label decimal
kinds_copyable Bonds Accepted e = record { type_told = refl; status_told = refl; copy_type = refl; copy_status = refl; first = refl; has_34 = refl; has_17 = refl; has_109 = refl; not_797 = refl; has_59 = refl; has_110 = refl }
kinds_copyable Bonds Replaced e = record { type_told = refl; status_told = refl; copy_type = refl; copy_status = refl; first = refl; has_34 = refl; has_17 = refl; has_109 = refl; not_797 = refl; has_59 = refl; has_110 = refl }
kinds_copyable Bonds Canceled e = record { type_told = refl; status_told = refl; copy_type = refl; copy_status = refl; first = refl; has_34 = refl; has_17 = refl; has_109 = refl; not_797 = refl; has_59 = refl; has_110 = refl }
kinds_copyable Bonds Trade e = record { type_told = refl; status_told = refl; copy_type = refl; copy_status = refl; first = refl; has_34 = refl; has_17 = refl; has_109 = refl; not_797 = refl; has_59 = refl; has_110 = refl }
kinds_copyable Equities Accepted e = record { type_told = refl; status_told = refl; copy_type = refl; copy_status = refl; first = refl; has_34 = refl; has_17 = refl; has_109 = refl; not_797 = refl; has_59 = refl; has_110 = refl }
kinds_copyable Equities Replaced e = record { type_told = refl; status_told = refl; copy_type = refl; copy_status = refl; first = refl; has_34 = refl; has_17 = refl; has_109 = refl; not_797 = refl; has_59 = refl; has_110 = refl }
kinds_copyable Equities Canceled e = record { type_told = refl; status_told = refl; copy_type = refl; copy_status = refl; first = refl; has_34 = refl; has_17 = refl; has_109 = refl; not_797 = refl; has_59 = refl; has_110 = refl }
kinds_copyable Equities Trade e = record { type_told = refl; status_told = refl; copy_type = refl; copy_status = refl; first = refl; has_34 = refl; has_17 = refl; has_109 = refl; not_797 = refl; has_59 = refl; has_110 = refl }
kinds_copyable q Rejected e = absurd (false≢true e)
kinds_copyable q CancelReject e = absurd (false≢true e)
kinds_copyable q SessionReject e = absurd (false≢true e)
kinds_copyable q Refused e = absurd (false≢true e)

-- ---- a Canceled has one of 41 and 378 in its copy if it has one
abbrev lows : ℕ → List Slot → Bool
lows zero slots = true
lows (suc i) [] = false
lows (suc i) (slot ∷ slots) = not (ltb 797 slot.tag) && lows i slots

module _ (s stored : List ℕ) (n w : ℕ) where
  -- in front of 797's place a field is changed where it stands
  woven_at : (i : ℕ) (slots : List Slot) (fs : List Field) → Tagged slots fs → lows (suc i) slots ≡ true
      → get_or (with797 (λ f. f.tag) (copy_field n w) yes797 fs) i (field 0 Absent) ≡ copy_field n w (get_or fs i (field 0 Absent))
  unfolding with797
  woven_at i [] fs p e = absurd (false≢true e)
  woven_at i (slot ∷ slots) [] p e = absurd p
  woven_at zero (slot ∷ slots) (f ∷ fs) p e =
      let t = not-true (ltb 797 slot.tag) (both_l (not (ltb 797 slot.tag)) true e) in
      let z : ltb 797 f.tag ≡ false = ap (ltb 797) p.0 ∙ t in
      rw z
  woven_at (suc i) (slot ∷ slots) (f ∷ fs) p e =
      let t = not-true (ltb 797 slot.tag) (both_l (not (ltb 797 slot.tag)) (lows (suc i) slots) e) in
      let z : ltb 797 f.tag ≡ false = ap (ltb 797) p.0 ∙ t in
      rw z (woven_at i slots fs p.1 (both_r (not (ltb 797 slot.tag)) (lows (suc i) slots) e))

  there_at : (i tag : ℕ) (slots : List Slot) (fs : List Field) → Filled s stored slots fs → i < 35 → lows (suc i) (take 35 slots) ≡ true → (get_or slots i unused).tag ≡ tag
      → is_absent (copy_value n w tag (get_or fs i (field 0 Absent)).value) ≡ is_absent (get_or fs i (field 0 Absent)).value
      → is_absent (get_or (with797 (λ f. f.tag) (copy_field n w) yes797 (take 35 fs)) i (field 0 Absent)).value ≡ is_absent (get_or fs i (field 0 Absent)).value
  unfolding copy_field
  there_at i tag slots fs p h e t c =
      ap (λ (f : Field). is_absent f.value) (woven_at i (take 35 slots) (take 35 fs) (filled_tagged s stored (take 35 slots) (take 35 fs) (filled_front s stored 35 slots fs p)) e)
      ∙ ap (λ (f : Field). is_absent (copy_field n w f).value) (get_or-take 35 fs i (field 0 Absent) h)
      ∙ ap (λ (g : ℕ). is_absent (copy_value n w g (get_or fs i (field 0 Absent)).value)) (tag_at i slots fs (filled_tagged s stored slots fs p) ∙ t)
      ∙ c

  -- a field of a Canceled that is neither 59 nor 110, nor the feed's own
  canceled_at : (q : Instrument) (i tag : ℕ) (fs : List Field) → Filled s stored (canceled_slots q) fs → i < 35 → lows (suc i) (take 35 (shown_slots q Canceled)) ≡ true
      → (get_or (canceled_slots q) i unused).tag ≡ tag → (get_or (shown_slots q Canceled) i unused).tag ≡ tag → eqb tag 59 ≡ false → eqb tag 110 ≡ false
      → ((v : Value) → copy_value n w tag v ≡ v)
      → is_absent (get_or (copy_row n w fs) i (field 0 Absent)).value ≡ is_absent (get_or fs i (field 0 Absent)).value
  unfolding copy_row
  canceled_at q i tag fs p h e t u a b c =
      there_at i tag (shown_slots q Canceled) (shown_row fs) (shown_fills s stored q Canceled fs p) h e u (ap is_absent (c (get_or (shown_row fs) i (field 0 Absent)).value))
      ∙ ap is_absent (shown_at i tag (canceled_slots q) fs (filled_tagged s stored (canceled_slots q) fs p) t a b)

  pub agreed_kept : (q : Instrument) (k : Kind) (fs : List Field) → Filled s stored (slots_of q k) fs → agreed k (copy_row n w fs) ≡ agreed k fs
  unfolding one_reason canceled_slots shown_slot copy_value
  agreed_kept q Accepted fs p = refl
  agreed_kept q Replaced fs p = refl
  agreed_kept q Canceled fs p =
      rw (
        canceled_at q 16 41 fs p (omega arith) refl refl refl refl refl (λ v. refl),
        canceled_at q 27 378 fs p (omega arith) refl refl refl refl refl (λ v. refl),
      )
  agreed_kept q Trade fs p = refl
  agreed_kept q Rejected fs p = refl
  agreed_kept q CancelReject fs p = refl
  agreed_kept q SessionReject fs p = refl
  agreed_kept q Refused fs p = refl
