-- The row with 59 and 110 as a copy shows them: looking a value up and changing a row, field by field; every other tag says what it said; and
-- it fills the slots of its kind, with 59 in 0 and 3.
use Prim.Native.Nat.{ℕ, zero, suc, ◌+◌, ◌≤◌, ◌<◌}
use mathlib.Core.Path.{◌≡◌, refl, sym, ap, ◌∙◌}
use mathlib.Core.Bool.{Bool, true, false, cond, not, ◌&&◌, ◌||◌, and-false, false≢true}
use mathlib.Core.List.{List, [], ◌∷◌, ◌++◌, map, append-nil}
use native.Mathlib.Omega.{arith}
use native.Mathlib.Numerals.{add-one}
use lib.Dec.{ltb, eqb}
use lib.ListN.{length, take, drop, get_or, set, length-set, drop_of_length-le, get_or-map}
use lib.Seq.{take_all, take-suc-set, drop-set-lt, drop-cons, append_snoc}
use borrow.Author.Tests.{eqb-true, eq-eqb, ne_eqb, not-true}
use Rattle.octets.proofs.Bools.{split, both_l, both_r}
use Rattle.decimal.specs.declared.Instrument.{Instrument}
use Rattle.decimal.specs.declared.Instrument.TheVariants.{Bonds, Equities}
use Rattle.report.specs.declared.Value.{Value}
use Rattle.report.specs.declared.Value.TheVariants.{Absent, Number, Char, Word, Sent, Stored, Level, Mean}
use Rattle.report.specs.declared.Field.{Field}
use Rattle.report.specs.declared.Shape.{Shape}
use Rattle.report.specs.declared.Shape.TheVariants as shape
use Rattle.report.specs.declared.Slot.{Slot}
use Rattle.report.specs.declared.Kind.{Kind}
use Rattle.report.specs.declared.Kind.TheVariants.{Accepted, Replaced, Canceled, Trade, Rejected, CancelReject, SessionReject, Refused}
use Rattle.report.specs.Fields.{field, value_bytes, label, field_bytes}
use Rattle.report.specs.Shapes.{one_in, value_in}
use Rattle.report.specs.Slots.{always, unused, accepted_slots, replaced_slots, canceled_slots, trade_slots, rejected_slots, cancel_reject_slots, session_reject_slots, slots_of}
use Rattle.report.proofs.Back.{moved, Fit, backs}
use Rattle.feed.specs.Rows.{is_four, is_fill_or_kill, value_of, ioc_value, ioc_field, shown_row, slot59}
use Rattle.feed.specs.Kept.{at_tag, is_kept}
use Rattle.feed.proofs.Shaped.{is_same}
use Rattle.feed.proofs.Filled.{Filled, filled_none, filled_some, filled_skip}
use Rattle.std.proofs.Common.{Some, None}

-- ---- looking a value up: what is left decides
pub record Sought (g : ℕ) (fs : List Field) (i : ℕ) : Type 0 where
  pub within : i ≤ 36
  pub many : length fs ≡ 36
  pub left : value_of g (drop i fs) ≡ value_of g fs

pub sought_first : (g : ℕ) (fs : List Field) → length fs ≡ 36 → Sought g fs 0
sought_first g fs h = record { within = omega arith; many = h; left = refl }

module _ (g : ℕ) (fs : List Field) (i : ℕ) (w : Sought g fs i) where
  pub sought_here : (d : Field) → i < 36 → (get_or fs i d).tag ≡ g → (get_or fs i d).value ≡ value_of g fs
  sought_here d h e =
      let z : value_of g (drop i fs) ≡ (get_or fs i d).value = rw (drop-cons fs i d (omega (arith, w.many)), eq-eqb (get_or fs i d).tag g e) in
      sym z ∙ w.left

  pub sought_on : (d : Field) → i < 36 → ((get_or fs i d).tag ≡ g → ⊥) → Sought g fs (i + 1)
  sought_on d h e =
      let z : value_of g (drop i fs) ≡ value_of g (drop (suc i) fs) = rw (drop-cons fs i d (omega (arith, w.many)), ne_eqb (get_or fs i d).tag g e) in
      record { within = omega arith; many = w.many; left = rw (add-one i) (sym z ∙ w.left) }

  pub sought_end : 36 ≤ i → Absent ≡ value_of g fs
  sought_end h =
      let z : value_of g (drop i fs) ≡ Absent = rw (drop_of_length-le fs {i = i} (omega (arith, w.many))) in
      sym z ∙ w.left

-- f of the value that is found
pub through : {B : Type 0} (f : Value → B) (g : ℕ) (fs : List Field) → f (value_of g fs) ≡ at_tag f (f Absent) g fs
through f g [] = refl
through f g (x ∷ fs) = split (eqb x.tag g) (λ t. rw t) (λ t. rw t (through f g fs))

-- ---- changing a row, field by field: what is still to do gives the end
module _ (change : Field → Field) where
  pub record Changing (all row : List Field) (i : ℕ) : Type 0 where
    pub within : i ≤ 36
    pub many : length row ≡ 36
    pub left : take i row ++ map change (drop i row) ≡ map change all

  pub changing_first : (all : List Field) → length all ≡ 36 → Changing all all 0
  changing_first all h = record { within = omega arith; many = h; left = refl }

  pub changing_more : (all row : List Field) (i : ℕ) (d y : Field) → Changing all row i → i < 36 → y ≡ change (get_or row i d) → Changing all (set row i y) (i + 1)
  changing_more all row i d y w h e =
      let front : take (i + 1) (set row i y) ≡ take i row ++ (y ∷ []) = rw (add-one i) (take-suc-set row i y (omega (arith, w.many))) in
      let back : drop (i + 1) (set row i y) ≡ drop (suc i) row = rw (add-one i) (drop-set-lt (suc i) row i y (omega arith)) in
      let next : map change (drop i row) ≡ y ∷ map change (drop (suc i) row) = rw (drop-cons row i d (omega (arith, w.many)), e) in
      record {
        within = omega arith;
        many = length-set row i y ∙ w.many;
        left =
            ap (λ (l : List Field). take (i + 1) (set row i y) ++ map change l) back
            ∙ ap (λ (l : List Field). l ++ map change (drop (suc i) row)) front
            ∙ append_snoc (take i row) y (map change (drop (suc i) row))
            ∙ ap (λ (l : List Field). take i row ++ l) (sym next)
            ∙ w.left;
      }

  pub changing_end : (all row : List Field) (i : ℕ) → Changing all row i → 36 ≤ i → row ≡ map change all
  changing_end all row i w h =
      let none : drop i row ≡ [] = drop_of_length-le row {i = i} (omega (arith, w.many)) in
      sym (append-nil row)
      ∙ ap (λ (l : List Field). l ++ []) (sym (take_all i row (omega (arith, w.many))))
      ∙ ap (λ (l : List Field). take i row ++ map change l) (sym none)
      ∙ w.left

-- ---- the code's choice
module _ (fs : List Field) (v : Value) (ve : v ≡ value_of 59 fs) (t : Bool) (te : t ≡ is_four v) where
  kill_is : is_fill_or_kill fs ≡ t
  unfolding is_fill_or_kill
  kill_is = sym (te ∙ ap is_four ve ∙ through is_four 59 fs)

  pub shown_kill : t ≡ true → (q : Value) (row : List Field) → q ≡ value_of 38 fs → row ≡ map (ioc_field q) fs → row ≡ shown_row fs
  unfolding shown_row
  shown_kill y q row qe re = rw (kill_is ∙ y) (re ∙ ap (λ (x : Value). map (ioc_field x) fs) qe)

  pub shown_still : t ≡ false → fs ≡ shown_row fs
  unfolding shown_row
  shown_still n = rw (kill_is ∙ n)

-- ---- each tag is its slot's
abbrev pub Tagged : List Slot → List Field → Type 0
Tagged [] [] = Unit {0}
Tagged [] (f ∷ fs) = ⊥
Tagged (slot ∷ slots) [] = ⊥
Tagged (slot ∷ slots) (f ∷ fs) = (f.tag ≡ slot.tag) × Tagged slots fs

pub filled_tagged : (s stored : List ℕ) (slots : List Slot) (fs : List Field) → Filled s stored slots fs → Tagged slots fs
filled_tagged s stored slots fs filled_none = tt
filled_tagged s stored slots fs (filled_some {slots = ss} {fs = gs} p q) = (p.tag_is, filled_tagged s stored ss gs q)
filled_tagged s stored slots fs (filled_skip {slots = ss} {fs = gs} e o q) = (ap (λ (h : Field). h.tag) e, filled_tagged s stored ss gs q)

pub tag_at : (i : ℕ) (slots : List Slot) (fs : List Field) → Tagged slots fs → (get_or fs i (field 0 Absent)).tag ≡ (get_or slots i unused).tag
tag_at i [] [] p = refl
tag_at i [] (f ∷ fs) p = absurd p
tag_at i (slot ∷ slots) [] p = absurd p
tag_at zero (slot ∷ slots) (f ∷ fs) p = p.0
tag_at (suc i) (slot ∷ slots) (f ∷ fs) p = tag_at i slots fs p.1

-- the tag stands in front of 797's place
abbrev pub has : ℕ → List Slot → Bool
has g [] = false
has g (slot ∷ slots) = cond (ltb 797 slot.tag) false (cond (eqb slot.tag g) true (has g slots))

-- no slot has the tag
abbrev pub lacks : ℕ → List Slot → Bool
lacks g [] = true
lacks g (slot ∷ slots) = not (eqb slot.tag g) && lacks g slots

lacking : {B : Type 0} (h : Value → B) (none : B) (g : ℕ) (slots : List Slot) (fs : List Field) → Tagged slots fs → lacks g slots ≡ true → at_tag h none g fs ≡ none
lacking h none g [] [] p e = refl
lacking h none g [] (f ∷ fs) p e = absurd p
lacking h none g (slot ∷ slots) [] p e = absurd p
lacking h none g (slot ∷ slots) (f ∷ fs) p e =
    let a = not-true (eqb slot.tag g) (both_l (not (eqb slot.tag g)) (lacks g slots) e) in
    let z : eqb f.tag g ≡ false = ap (λ (t : ℕ). eqb t g) p.0 ∙ a in
    rw z (lacking h none g slots fs p.1 (both_r (not (eqb slot.tag g)) (lacks g slots) e))

-- ---- what it says of each tag
pub kept_other : (kill : Bool) (g : ℕ) → is_kept kill g ≡ true → is_kept false g ≡ true
unfolding is_kept
kept_other kill g e =
    let a = not (eqb g 0) && not (eqb g 34) && not (eqb g 17) && not (eqb g 109) && not (eqb g 797) in
    rw (both_l a (not ((eqb g 59 || eqb g 110) && kill)) e, and-false (eqb g 59 || eqb g 110))

kept_neither : (g : ℕ) → is_kept true g ≡ true → (eqb g 59 ≡ false) × (eqb g 110 ≡ false)
unfolding is_kept
kept_neither g e =
    let a = not (eqb g 0) && not (eqb g 34) && not (eqb g 17) && not (eqb g 109) && not (eqb g 797) in
    by (eqb g 59) (eqb g 110) (both_r a (not ((eqb g 59 || eqb g 110) && true)) e)
  where
    by : (x y : Bool) → not ((x || y) && true) ≡ true → (x ≡ false) × (y ≡ false)
    by false false z = (refl, refl)
    by true y z = absurd (false≢true z)
    by false true z = absurd (false≢true z)

module _ {B : Type 0} (h : Value → B) (none : B) (g : ℕ) where
  ioc_kept : (q : Value) → eqb g 59 ≡ false → eqb g 110 ≡ false → (fs : List Field) → at_tag h none g (map (ioc_field q) fs) ≡ at_tag h none g fs
  unfolding ioc_field ioc_value
  ioc_kept q a b [] = refl
  ioc_kept q a b (f ∷ fs) =
      split (eqb f.tag g)
      (λ t. let z = eqb-true f.tag g t in rw (t, z, a, b))
      (λ t. rw t (ioc_kept q a b fs))

  pub shown_kept : (fs : List Field) → is_kept (is_fill_or_kill fs) g ≡ true → at_tag h none g (shown_row fs) ≡ at_tag h none g fs
  unfolding shown_row
  shown_kept fs k =
      split (is_fill_or_kill fs)
      (λ t. let n = kept_neither g (rw t at k) in rw t (ioc_kept (value_of 38 fs) n.0 n.1 fs))
      (λ t. rw t)

  ioc_new : (q v : Value) → ((old : Value) → ioc_value q g old ≡ v) → (slots : List Slot) (fs : List Field) → Tagged slots fs → has g slots ≡ true
      → at_tag h none g (map (ioc_field q) fs) ≡ h v
  unfolding ioc_field
  ioc_new q v c [] fs p e = absurd (false≢true e)
  ioc_new q v c (slot ∷ slots) [] p e = absurd p
  ioc_new q v c (slot ∷ slots) (f ∷ fs) p e =
      rw p.0
      (split (ltb 797 slot.tag)
      (λ t. let z : false ≡ true = rw t at e in absurd (false≢true z))
      (λ t. split (eqb slot.tag g)
      (λ u. rw (u, eqb-true slot.tag g u) (ap h (c f.value)))
      (λ u. rw u (ioc_new q v c slots fs p.1 (rw (t, u) at e)))))

  -- of a Fill or Kill
  pub shown_new : (fs : List Field) (v : Value) → is_fill_or_kill fs ≡ true → ((old : Value) → ioc_value (value_of 38 fs) g old ≡ v) → (slots : List Slot) → Tagged slots fs → has g slots ≡ true
      → at_tag h none g (shown_row fs) ≡ h v
  unfolding shown_row
  shown_new fs v k c slots p e = rw k (ioc_new (value_of 38 fs) v c slots fs p e)

-- and of a field at a place
pub shown_at : (i tag : ℕ) (slots : List Slot) (fs : List Field) → Tagged slots fs → (get_or slots i unused).tag ≡ tag → eqb tag 59 ≡ false → eqb tag 110 ≡ false
    → (get_or (shown_row fs) i (field 0 Absent)).value ≡ (get_or fs i (field 0 Absent)).value
unfolding shown_row ioc_field ioc_value
shown_at i tag slots fs p t a b =
    split (is_fill_or_kill fs)
    (λ k. rw k
    (ap (λ (f : Field). f.value) (get_or-map (ioc_field (value_of 38 fs)) fs i (field 0 Absent))
    ∙ ap (λ (g : ℕ). ioc_value (value_of 38 fs) g (get_or fs i (field 0 Absent)).value) (tag_at i slots fs p ∙ t)
    ∙ rw (a, b)))
    (λ k. rw k)

-- ---- where a row is read back it shows Fill or Kill if it did
module _ (s stored : List ℕ) where
  moved_four : (place : ℕ) (v : Value) → is_four (moved s stored place v) ≡ is_four v
  moved_four place Absent = refl
  moved_four place (Number n) = refl
  moved_four place (Char c) = refl
  moved_four place (Word w x y z) = refl
  moved_four place (Sent from len) = refl
  moved_four place (Stored from len) = refl
  moved_four place (Level q level) = refl
  moved_four place (Mean q mean) = refl

  pub back_four : (at : ℕ) (fs : List Field) → is_fill_or_kill (backs s stored at fs) ≡ is_fill_or_kill fs
  unfolding is_fill_or_kill
  back_four at [] = refl
  back_four at (f ∷ fs) =
      split (eqb f.tag 59)
      (λ t. rw t (moved_four (at + length (label f.tag)) f.value))
      (λ t. rw t (back_four (at + length (field_bytes s stored f)) fs))

-- ---- it fills the slots of its kind, with 59 in 0 and 3
unfoldable pub shown_slot : Slot → Slot
shown_slot slot = cond (eqb slot.tag 59) slot59 slot

abbrev pub shown_slots : Instrument → Kind → List Slot
shown_slots q k = map shown_slot (slots_of q k)

lacking_shown : (slots : List Slot) → lacks 59 slots ≡ true → map shown_slot slots ≡ slots
unfolding shown_slot
lacking_shown [] e = refl
lacking_shown (slot ∷ slots) e =
    let a = not-true (eqb slot.tag 59) (both_l (not (eqb slot.tag 59)) (lacks 59 slots) e) in
    rw a (ap (λ (l : List Slot). slot ∷ l) (lacking_shown slots (both_r (not (eqb slot.tag 59)) (lacks 59 slots) e)))

-- 0, 3 or 4
abbrev is_force : Shape → Bool
is_force shape.Nothing = false
is_force (shape.OneOf a b c d e) = eqb a 48 && eqb b 51 && eqb c 52 && eqb d 52 && eqb e 52
is_force (shape.Range least most) = false
is_force (shape.Listed a b c d e f g h) = false
is_force (shape.Exact w x y z) = false
is_force shape.OrderId = false
is_force (shape.Text most low) = false
is_force shape.Digits = false
is_force shape.Time = false
is_force (shape.Level q) = false
is_force (shape.Average q) = false

force_is : (f : Shape) → is_force f ≡ true → f ≡ shape.OneOf 48 51 52 52 52
force_is shape.Nothing e = absurd (false≢true e)
force_is (shape.OneOf a b c d x) e =
    let e₄ = both_l (eqb a 48 && eqb b 51 && eqb c 52 && eqb d 52) (eqb x 52) e in
    let e₃ = both_l (eqb a 48 && eqb b 51 && eqb c 52) (eqb d 52) e₄ in
    let e₂ = both_l (eqb a 48 && eqb b 51) (eqb c 52) e₃ in
    rw (
      eqb-true a 48 (both_l (eqb a 48) (eqb b 51) e₂),
      eqb-true b 51 (both_r (eqb a 48) (eqb b 51) e₂),
      eqb-true c 52 (both_r (eqb a 48 && eqb b 51) (eqb c 52) e₃),
      eqb-true d 52 (both_r (eqb a 48 && eqb b 51 && eqb c 52) (eqb d 52) e₄),
      eqb-true x 52 (both_r (eqb a 48 && eqb b 51 && eqb c 52 && eqb d 52) (eqb x 52) e),
    )
force_is (shape.Range least most) e = absurd (false≢true e)
force_is (shape.Listed a b c d x f h i) e = absurd (false≢true e)
force_is (shape.Exact w x y z) e = absurd (false≢true e)
force_is shape.OrderId e = absurd (false≢true e)
force_is (shape.Text most low) e = absurd (false≢true e)
force_is shape.Digits e = absurd (false≢true e)
force_is shape.Time e = absurd (false≢true e)
force_is (shape.Level q) e = absurd (false≢true e)
force_is (shape.Average q) e = absurd (false≢true e)

-- a quantity, and the shape of one
abbrev quantity : Shape
quantity = shape.Range 0 999999999

abbrev is_quantity : Shape → Bool
is_quantity shape.Nothing = false
is_quantity (shape.OneOf a b c d e) = false
is_quantity (shape.Range least most) = eqb least 0 && eqb most 999999999
is_quantity (shape.Listed a b c d e f g h) = false
is_quantity (shape.Exact w x y z) = false
is_quantity shape.OrderId = false
is_quantity (shape.Text most low) = false
is_quantity shape.Digits = false
is_quantity shape.Time = false
is_quantity (shape.Level q) = false
is_quantity (shape.Average q) = false

quantity_is : (f : Shape) → is_quantity f ≡ true → f ≡ quantity
quantity_is shape.Nothing e = absurd (false≢true e)
quantity_is (shape.OneOf a b c d x) e = absurd (false≢true e)
quantity_is (shape.Range least most) e =
    rw (eqb-true least 0 (both_l (eqb least 0) (eqb most 999999999) e), eqb-true most 999999999 (both_r (eqb least 0) (eqb most 999999999) e))
quantity_is (shape.Listed a b c d x f h i) e = absurd (false≢true e)
quantity_is (shape.Exact w x y z) e = absurd (false≢true e)
quantity_is shape.OrderId e = absurd (false≢true e)
quantity_is (shape.Text most low) e = absurd (false≢true e)
quantity_is shape.Digits e = absurd (false≢true e)
quantity_is shape.Time e = absurd (false≢true e)
quantity_is (shape.Level q) e = absurd (false≢true e)
quantity_is (shape.Average q) e = absurd (false≢true e)

-- 59 is always there and 0, 3 or 4; 110 is a quantity
abbrev force_one : Slot → Bool
force_one slot = not (eqb slot.tag 59) || not slot.optional && is_force slot.shape

abbrev minimum_one : Slot → Bool
minimum_one slot = not (eqb slot.tag 110) || is_quantity slot.shape

abbrev forced : List Slot → Bool
forced [] = true
forced (slot ∷ slots) = force_one slot && minimum_one slot && forced slots

-- 59 stands once
abbrev once : List Slot → Bool
once [] = true
once (slot ∷ slots) = cond (eqb slot.tag 59) (lacks 59 slots) (once slots)

-- 38 is always there and a quantity
abbrev sized : List Slot → Bool
sized [] = false
sized (slot ∷ slots) = cond (eqb slot.tag 38) (not slot.optional && is_quantity slot.shape) (sized slots)

-- what is one of 0, 3 and 4, and not 4, is one of 0 and 3
one_less_by : (a b c : Bool) (x : ℕ) (m : Value) → cond (a || b || c || c || c) (Some (Char x)) None ≡ Some m → (m ≡ Char x → c ≡ false) → cond (a || b || b || b || b) (Some (Char x)) None ≡ Some m
one_less_by true b c x m e n = e
one_less_by false true c x m e n = e
one_less_by false false true x m e n = absurd (false≢true (sym (n (sym (is_same (Char x) m e)))))
one_less_by false false false x m e n = e

one_less : (b : List ℕ) (m : Value) → one_in 48 51 52 52 52 b ≡ Some m → is_four m ≡ false → one_in 48 51 51 51 51 b ≡ Some m
unfolding one_in
one_less b m e n =
    split (eqb (length b) 1)
    (λ l. rw l (one_less_by (eqb (get_or b 0 0) 48) (eqb (get_or b 0 0) 51) (eqb (get_or b 0 0) 52) (get_or b 0 0) m (rw l at e) (λ z. sym (ap is_four z) ∙ n)))
    (λ l. rw l (rw l at e))

module _ (s stored : List ℕ) where
  -- 59 as a copy shows it
  three_fits : (tag : ℕ) → tag ≡ 59 → Fit s stored slot59 (field tag (Char 51))
  unfolding one_in
  three_fits tag e =
      record {
        tag_is = e;
        here = refl;
        proper = ((λ q. omega (arith, q)), (λ q. omega (arith, q)), (λ q. omega (arith, q)), (λ q. omega (arith, q)), (λ q. omega (arith, q)));
        picked = λ place. refl;
      }

  not_four_fits : (slot : Slot) (f : Field) → slot.tag ≡ 59 → is_force slot.shape ≡ true → is_four f.value ≡ false → Fit s stored slot f → Fit s stored slot59 f
  not_four_fits slot f t r n p =
      record {
        tag_is = p.tag_is ∙ t;
        here = p.here;
        proper = ((λ q. omega (arith, q)), (λ q. omega (arith, q)), (λ q. omega (arith, q)), (λ q. omega (arith, q)), (λ q. omega (arith, q)));
        picked = λ place.
            one_less (value_bytes s stored f.value) (moved s stored place f.value)
            (ap (λ (g : Shape). value_in g place (value_bytes s stored f.value)) (sym (force_is slot.shape r)) ∙ p.picked place)
            (moved_four s stored place f.value ∙ n);
      }

  -- 110 as a copy shows it: what 38 takes
  abbrev Sized : Value → Type 0
  Sized q = Fit s stored (always 38 quantity) (field 38 q)

  minimum_fits : (slot : Slot) (tag : ℕ) (q : Value) → tag ≡ slot.tag → is_quantity slot.shape ≡ true → Sized q → Fit s stored slot (field tag q)
  minimum_fits slot tag q t r p =
      record {
        tag_is = t;
        here = p.here;
        proper = rw (quantity_is slot.shape r) tt;
        picked = λ place. ap (λ (g : Shape). value_in g place (value_bytes s stored q)) (quantity_is slot.shape r) ∙ p.picked place;
      }

  told : (slot : Slot) (f : Field) → is_quantity slot.shape ≡ true → Fit s stored slot f → Sized f.value
  told slot f r p =
      record {
        tag_is = refl;
        here = p.here;
        proper = tt;
        picked = λ place. ap (λ (g : Shape). value_in g place (value_bytes s stored f.value)) (sym (quantity_is slot.shape r)) ∙ p.picked place;
      }

  sized_is : (slots : List Slot) (fs : List Field) → Filled s stored slots fs → sized slots ≡ true → Sized (value_of 38 fs)
  sized_is slots fs filled_none e = absurd (false≢true e)
  sized_is slots fs (filled_some {slot} {f} {slots = ss} {fs = gs} p q) e =
      split (eqb slot.tag 38)
      (λ t.
      let z : eqb f.tag 38 ≡ true = ap (λ (k : ℕ). eqb k 38) p.tag_is ∙ t in
      let y : (not slot.optional && is_quantity slot.shape) ≡ true = rw t at e in
      rw z (told slot f (both_r (not slot.optional) (is_quantity slot.shape) y) p))
      (λ t.
      let z : eqb f.tag 38 ≡ false = ap (λ (k : ℕ). eqb k 38) p.tag_is ∙ t in
      rw z (sized_is ss gs q (rw t at e)))
  sized_is slots fs (filled_skip {slot} {f} {slots = ss} {fs = gs} x o q) e =
      split (eqb slot.tag 38)
      (λ t.
      let y : (not slot.optional && is_quantity slot.shape) ≡ true = rw t at e in
      absurd (false≢true (sym (not-true slot.optional (both_l (not slot.optional) (is_quantity slot.shape) y)) ∙ o)))
      (λ t.
      let z : eqb f.tag 38 ≡ false = ap (λ (h : Field). eqb h.tag 38) x ∙ t in
      rw z (sized_is ss gs q (rw t at e)))

  -- a Fill or Kill
  module _ (q : Value) (sure : Sized q) where
    ioc_one : (slot : Slot) (f : Field) (ss : List Slot) (gs : List Field) → f.tag ≡ slot.tag → minimum_one slot ≡ true → Filled s stored ss gs
        → Filled s stored (slot ∷ ss) (f ∷ gs) → Filled s stored (shown_slot slot ∷ ss) (ioc_field q f ∷ gs)
    unfolding shown_slot ioc_field ioc_value
    ioc_one slot f ss gs t r p whole =
        split (eqb slot.tag 59)
        (λ a.
        let u : eqb f.tag 59 ≡ true = ap (λ (k : ℕ). eqb k 59) t ∙ a in
        rw (a, u) (filled_some (three_fits f.tag (t ∙ eqb-true slot.tag 59 a)) p))
        (λ a.
        let u : eqb f.tag 59 ≡ false = ap (λ (k : ℕ). eqb k 59) t ∙ a in
        split (eqb slot.tag 110)
        (λ b.
        let v : eqb f.tag 110 ≡ true = ap (λ (k : ℕ). eqb k 110) t ∙ b in
        rw (a, u, v) (filled_some (minimum_fits slot f.tag q t (rw b at r) sure) p))
        (λ b.
        let v : eqb f.tag 110 ≡ false = ap (λ (k : ℕ). eqb k 110) t ∙ b in
        rw (a, u, v) whole))

    ioc_fills : (slots : List Slot) (fs : List Field) → Filled s stored slots fs → forced slots ≡ true → Filled s stored (map shown_slot slots) (map (ioc_field q) fs)
    ioc_fills slots fs filled_none r = filled_none
    ioc_fills slots fs (filled_some {slot} {f} {slots = ss} {fs = gs} p x) r =
        let rest = ioc_fills ss gs x (both_r (force_one slot && minimum_one slot) (forced ss) r) in
        ioc_one slot f _ _ p.tag_is (both_r (force_one slot) (minimum_one slot) (both_l (force_one slot && minimum_one slot) (forced ss) r)) rest (filled_some p rest)
    ioc_fills slots fs (filled_skip {slot} {f} {slots = ss} {fs = gs} e o x) r =
        let rest = ioc_fills ss gs x (both_r (force_one slot && minimum_one slot) (forced ss) r) in
        ioc_one slot f _ _ (ap (λ (h : Field). h.tag) e) (both_r (force_one slot) (minimum_one slot) (both_l (force_one slot && minimum_one slot) (forced ss) r)) rest (filled_skip e o rest)

  -- any other
  still_fills : (slots : List Slot) (fs : List Field) → Filled s stored slots fs → forced slots ≡ true → once slots ≡ true → at_tag is_four false 59 fs ≡ false
      → Filled s stored (map shown_slot slots) fs
  unfolding shown_slot
  still_fills slots fs filled_none r w n = filled_none
  still_fills slots fs (filled_some {slot} {f} {slots = ss} {fs = gs} p x) r w n =
      let one = both_l (force_one slot) (minimum_one slot) (both_l (force_one slot && minimum_one slot) (forced ss) r) in
      let more = both_r (force_one slot && minimum_one slot) (forced ss) r in
      split (eqb slot.tag 59)
      (λ a.
      let u : eqb f.tag 59 ≡ true = ap (λ (k : ℕ). eqb k 59) p.tag_is ∙ a in
      let y : (not slot.optional && is_force slot.shape) ≡ true = rw a at one in
      let fit = not_four_fits slot f (eqb-true slot.tag 59 a) (both_r (not slot.optional) (is_force slot.shape) y) (rw u at n) p in
      rw (a, lacking_shown ss (rw a at w)) (filled_some fit x))
      (λ a.
      let u : eqb f.tag 59 ≡ false = ap (λ (k : ℕ). eqb k 59) p.tag_is ∙ a in
      rw a (filled_some p (still_fills ss gs x more (rw a at w) (rw u at n))))
  still_fills slots fs (filled_skip {slot} {f} {slots = ss} {fs = gs} e o x) r w n =
      let one = both_l (force_one slot) (minimum_one slot) (both_l (force_one slot && minimum_one slot) (forced ss) r) in
      let more = both_r (force_one slot && minimum_one slot) (forced ss) r in
      split (eqb slot.tag 59)
      (λ a.
      let y : (not slot.optional && is_force slot.shape) ≡ true = rw a at one in
      absurd (false≢true (sym (not-true slot.optional (both_l (not slot.optional) (is_force slot.shape) y)) ∙ o)))
      (λ a.
      let u : eqb f.tag 59 ≡ false = ap (λ (h : Field). eqb h.tag 59) e ∙ a in
      rw a (filled_skip e o (still_fills ss gs x more (rw a at w) (rw u at n))))

  with_force : (slots : List Slot) (fs : List Field) → Filled s stored slots fs → forced slots ≡ true → once slots ≡ true → sized slots ≡ true
      → Filled s stored (map shown_slot slots) (shown_row fs)
  unfolding shown_row is_fill_or_kill
  with_force slots fs p r w z =
      split (at_tag is_four false 59 fs)
      (λ t. rw t (ioc_fills (value_of 38 fs) (sized_is slots fs p z) slots fs p r))
      (λ t. rw t (still_fills slots fs p r w t))

  without_force : (slots : List Slot) (fs : List Field) → Filled s stored slots fs → lacks 59 slots ≡ true → Filled s stored (map shown_slot slots) (shown_row fs)
  unfolding shown_row is_fill_or_kill
  without_force slots fs p e = rw (lacking_shown slots e, lacking is_four false 59 slots fs (filled_tagged s stored slots fs p) e) p

  pub shown_fills : (q : Instrument) (k : Kind) (fs : List Field) → Filled s stored (slots_of q k) fs → Filled s stored (shown_slots q k) (shown_row fs)
  unfolding accepted_slots replaced_slots canceled_slots trade_slots rejected_slots cancel_reject_slots session_reject_slots
  shown_fills Bonds Accepted fs p = with_force (accepted_slots Bonds) fs p refl refl refl
  shown_fills Bonds Replaced fs p = with_force (replaced_slots Bonds) fs p refl refl refl
  shown_fills Bonds Canceled fs p = with_force (canceled_slots Bonds) fs p refl refl refl
  shown_fills Bonds Trade fs p = with_force (trade_slots Bonds) fs p refl refl refl
  shown_fills Bonds Rejected fs p = without_force (rejected_slots Bonds) fs p refl
  shown_fills Bonds CancelReject fs p = without_force (cancel_reject_slots Bonds) fs p refl
  shown_fills Bonds SessionReject fs p = without_force (session_reject_slots Bonds) fs p refl
  shown_fills Bonds Refused fs p = without_force (slots_of Bonds Refused) fs p refl
  shown_fills Equities Accepted fs p = with_force (accepted_slots Equities) fs p refl refl refl
  shown_fills Equities Replaced fs p = with_force (replaced_slots Equities) fs p refl refl refl
  shown_fills Equities Canceled fs p = with_force (canceled_slots Equities) fs p refl refl refl
  shown_fills Equities Trade fs p = with_force (trade_slots Equities) fs p refl refl refl
  shown_fills Equities Rejected fs p = without_force (rejected_slots Equities) fs p refl
  shown_fills Equities CancelReject fs p = without_force (cancel_reject_slots Equities) fs p refl
  shown_fills Equities SessionReject fs p = without_force (session_reject_slots Equities) fs p refl
  shown_fills Equities Refused fs p = without_force (slots_of Equities Refused) fs p refl
