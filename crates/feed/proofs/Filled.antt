-- Rows that fill their slots: the row that is read of a report does; and one that does, of slots whose tags can be told apart, fits them,
-- so that it is read back, and its 35 and 150 are found.
use Prim.Native.Nat.{ℕ, zero, suc, ◌+◌, ◌≤◌}
use mathlib.Core.Path.{◌≡◌, refl, sym, ap, ◌∙◌, subst}
use mathlib.Core.Bool.{Bool, true, false, cond, not, ◌&&◌, ◌||◌, false≢true}
use mathlib.Core.List.{List, [], ◌∷◌, ◌++◌, append_assoc, append-nil}
use mathlib.Core.Logic.{◌⊎◌, inl, inr}
use native.Mathlib.Omega.{arith}
use lib.Dec.{ltb, eqb}
use lib.ListN.{length, take, drop, get_or, length-drop}
use lib.Seq.{length-take-le}
use borrow.Author.Tests.{eqb-true, ltb-true, not-true}
use Rattle.octets.specs.Octets.{part_at}
use Rattle.octets.proofs.Bools.{split, both_l, both_r, or_r}
use Rattle.decimal.specs.Writing.{decimal, places}
use Rattle.report.specs.declared.Value.{Value}
use Rattle.report.specs.declared.Value.TheVariants.{Absent, Number, Char, Word, Sent, Stored, Level, Mean}
use Rattle.report.specs.declared.Field.{Field}
use Rattle.report.specs.declared.Shape.{Shape}
use Rattle.report.specs.declared.Shape.TheVariants as shape
use Rattle.report.specs.declared.Slot.{Slot}
use Rattle.report.specs.Fields.{field, value_bytes, label, written, field_bytes, row_bytes}
use Rattle.report.specs.Frame.{check_sum, front, trailer, report_bytes}
use Rattle.report.specs.Shapes.{value_in}
use Rattle.report.specs.Parse.{starts, len_to, field_at, row, read_row, found}
use Rattle.report.specs.Reports.{kind_for, first_of, kind_of}
use Rattle.report.proofs.Bytes.{field_none}
use Rattle.report.proofs.Labels.{differ, written_starts}
use Rattle.report.proofs.Taken.{Proper, taken}
use Rattle.report.proofs.Parses.{found_value, field_within}
use Rattle.report.proofs.Only.{AllProper, Valued, value_found, next_row}
use Rattle.report.proofs.Back.{moved, Fit, Fits, fits_none, fits_some, fits_skip, fit_bytes}
use Rattle.report.proofs.Firsts.{pass, hit, report_first}
use Rattle.feed.specs.Kept.{at_tag}
use Rattle.feed.proofs.Shaped.{again, is_never, is_same}
use Rattle.std.proofs.Common.{Some, None}

-- fields slot by slot: one is the slot's, or may be missing and is
pub data Filled (sent stored : List ℕ) : List Slot → List Field → Type 0 where
  filled_none : Filled sent stored [] []
  filled_some : {slot : Slot} {f : Field} {slots : List Slot} {fs : List Field} → Fit sent stored slot f → Filled sent stored slots fs
      → Filled sent stored (slot ∷ slots) (f ∷ fs)
  filled_skip : {slot : Slot} {f : Field} {slots : List Slot} {fs : List Field} → f ≡ field slot.tag Absent → slot.optional ≡ true
      → Filled sent stored slots fs → Filled sent stored (slot ∷ slots) (f ∷ fs)

-- ---- what is read
module _ (s stored : List ℕ) where
  there_fits : (at : ℕ) (slot : Slot) (x : Value) (n : ℕ) → Proper slot.shape → Valued s (at + length (label slot.tag)) slot.shape x n
      → Fit s stored slot (field slot.tag x)
  unfolding part_at
  there_fits at slot x n proper v =
      let p : ℕ = at + length (label slot.tag) in
      let l : ℕ = len_to (drop p s) in
      let val : List ℕ = take l (drop p s) in
      let t = taken slot.shape p val x proper v.picked in
      let len : length val ≡ l = length-take-le l (drop p s) (omega (arith, v.within, length-drop p s)) in
      let part : part_at s p (length val) ≡ val = ap (λ (k : ℕ). take k (drop p s)) len in
      record {
        tag_is = refl;
        here = t.here;
        proper = proper;
        picked = λ place. ap (value_in slot.shape place) (t.bytes s stored part) ∙ again s stored place slot.shape p val x (ap length part) v.picked;
      }

  abbrev Told : Slot → Value → Type 0
  Told slot x = Fit s stored slot (field slot.tag x) ⊎ ((x ≡ Absent) × (slot.optional ≡ true))

  skip_told : (slot : Slot) (at : ℕ) (x : Value) (n : ℕ) (o : Bool) → slot.optional ≡ o → cond o (found Absent at) None ≡ found x n → Told slot x
  skip_told slot at x n true o e = inr (sym (found_value Absent x at n e), o)
  skip_told slot at x n false o e = let z : ◌≡◌ {A = ℕ} 0 1 = cc in absurd (omega arith)

  field_told : (at : ℕ) (slot : Slot) (x : Value) (n : ℕ) → Proper slot.shape → field_at s at slot ≡ found x n → Told slot x
  unfolding field_at
  field_told at slot x n proper e =
      split (starts (label slot.tag) (drop at s))
      (λ t. inl (there_fits at slot x n proper (value_found s (at + length (label slot.tag)) slot.shape x n (rw t at e))))
      (λ t. skip_told slot at x n slot.optional refl (rw t at e))

  one_more_lem : (slot : Slot) (x : Value) (slots : List Slot) (fs : List Field) → Told slot x → Filled s stored slots fs → Filled s stored (slot ∷ slots) (field slot.tag x ∷ fs)
  one_more_lem slot x slots fs (inl f) r = filled_some f r
  one_more_lem slot x slots fs (inr a) r = filled_skip (ap (field slot.tag) a.0) a.1 r

  pub read_fills : (at : ℕ) (slots : List Slot) (fs : List Field) (n : ℕ) → at ≤ length s → AllProper slots → read_row s at slots ≡ row fs n → Filled s stored slots fs
  read_fills at [] fs n h p e = let a : fs ≡ [] = cc in rw a filled_none
  read_fills at (slot ∷ slots) fs n h p e =
      let c = next_row slot.tag (field_at s at slot) (λ m. read_row s m slots) fs n e in
      subst (λ (l : List Field). Filled s stored (slot ∷ slots) l) (sym c.all)
      (one_more_lem slot c.value slots c.rest (field_told at slot c.value c.next p.0 c.read)
      (read_fills c.next slots c.rest n (field_within s c.value c.next at slot h c.read) p.1 c.left))

-- ---- what is read has its texts in the report
abbrev is_stored : Value → Bool
is_stored Absent = false
is_stored (Number n) = false
is_stored (Char c) = false
is_stored (Word w x y z) = false
is_stored (Sent from len) = false
is_stored (Stored from len) = true
is_stored (Level q level) = false
is_stored (Mean q mean) = false

moved_sent : (s stored : List ℕ) (place : ℕ) (v : Value) → is_stored (moved s stored place v) ≡ false
moved_sent s stored place Absent = refl
moved_sent s stored place (Number n) = refl
moved_sent s stored place (Char c) = refl
moved_sent s stored place (Word w x y z) = refl
moved_sent s stored place (Sent from len) = refl
moved_sent s stored place (Stored from len) = refl
moved_sent s stored place (Level q level) = refl
moved_sent s stored place (Mean q mean) = refl

same_bytes_lem : (s stored other : List ℕ) (v : Value) → is_stored v ≡ false → value_bytes s stored v ≡ value_bytes s other v
same_bytes_lem s stored other Absent e = refl
same_bytes_lem s stored other (Number n) e = refl
same_bytes_lem s stored other (Char c) e = refl
same_bytes_lem s stored other (Word w x y z) e = refl
same_bytes_lem s stored other (Sent from len) e = refl
same_bytes_lem s stored other (Stored from len) e = absurd (false≢true (sym e))
same_bytes_lem s stored other (Level q level) e = refl
same_bytes_lem s stored other (Mean q mean) e = refl

module _ (s : List ℕ) where
  part_long : (p l : ℕ) → length (take l (drop p s)) ≡ l → length (part_at s p (length (take l (drop p s)))) ≡ length (take l (drop p s))
  unfolding part_at
  part_long p l e = ap (λ (k : ℕ). length (take k (drop p s))) e

  there_sent : (p : ℕ) (slot : Slot) (x : Value) (n : ℕ) → Valued s p slot.shape x n → is_stored x ≡ false
  there_sent p slot x n v =
      let l : ℕ = len_to (drop p s) in
      let val : List ℕ = take l (drop p s) in
      let len : length val ≡ l = length-take-le l (drop p s) (omega (arith, v.within, length-drop p s)) in
      let part : length (part_at s p (length val)) ≡ length val = part_long p l len in
      ap is_stored (is_same x (moved s [] p x) (sym v.picked ∙ again s [] p slot.shape p val x part v.picked)) ∙ moved_sent s [] p x

  skip_sent : (at : ℕ) (x : Value) (n : ℕ) (o : Bool) → cond o (found Absent at) None ≡ found x n → is_stored x ≡ false
  skip_sent at x n true e = ap is_stored (sym (found_value Absent x at n e))
  skip_sent at x n false e = let z : ◌≡◌ {A = ℕ} 0 1 = cc in absurd (omega arith)

  field_sent : (at : ℕ) (slot : Slot) (x : Value) (n : ℕ) → field_at s at slot ≡ found x n → is_stored x ≡ false
  unfolding field_at
  field_sent at slot x n e =
      split (starts (label slot.tag) (drop at s))
      (λ t. there_sent (at + length (label slot.tag)) slot x n (value_found s (at + length (label slot.tag)) slot.shape x n (rw t at e)))
      (λ t. skip_sent at x n slot.optional (rw t at e))

  -- so its bytes do not depend on what is stored
  pub read_says : (stored other : List ℕ) (g at : ℕ) (slots : List Slot) (fs : List Field) (n : ℕ) → read_row s at slots ≡ row fs n
      → at_tag (value_bytes s stored) [] g fs ≡ at_tag (value_bytes s other) [] g fs
  read_says stored other g at [] fs n e = let a : fs ≡ [] = cc in rw a
  read_says stored other g at (slot ∷ slots) fs n e =
      let c = next_row slot.tag (field_at s at slot) (λ m. read_row s m slots) fs n e in
      let one = same_bytes_lem s stored other c.value (field_sent at slot c.value c.next c.read) in
      let more = read_says stored other g c.next slots c.rest n c.left in
      rw c.all (ap (λ (v : List ℕ). cond (eqb slot.tag g) v (at_tag (value_bytes s stored) [] g c.rest)) one ∙ ap (cond (eqb slot.tag g) (value_bytes s other c.value)) more)

-- ---- the front of a row
pub filled_front : (sent stored : List ℕ) (n : ℕ) (slots : List Slot) (fs : List Field) → Filled sent stored slots fs → Filled sent stored (take n slots) (take n fs)
filled_front sent stored zero slots fs p = filled_none
filled_front sent stored (suc n) slots fs filled_none = filled_none
filled_front sent stored (suc n) slots fs (filled_some {slots = ss} {fs = gs} p r) = filled_some p (filled_front sent stored n ss gs r)
filled_front sent stored (suc n) slots fs (filled_skip {slots = ss} {fs = gs} e o r) = filled_skip e o (filled_front sent stored n ss gs r)

-- ---- slots whose tags can be told apart

-- no value is read there
abbrev pub is_unused : Shape → Bool
is_unused shape.Nothing = true
is_unused (shape.OneOf a b c d e) = false
is_unused (shape.Range least most) = false
is_unused (shape.Listed a b c d e f g h) = false
is_unused (shape.Exact w x y z) = false
is_unused shape.OrderId = false
is_unused (shape.Text most low) = false
is_unused shape.Digits = false
is_unused shape.Time = false
is_unused (shape.Level q) = false
is_unused (shape.Average q) = false

-- no field of these slots, nor 10, begins with the tag
abbrev pub apart : ℕ → List Slot → Bool
apart g [] = differ (label g) (label 10)
apart g (slot ∷ slots) = (is_unused slot.shape || differ (label g) (label slot.tag)) && apart g slots

-- so that a field that may be missing is not mistaken for one behind it
abbrev pub distinct : List Slot → Bool
distinct [] = true
distinct (slot ∷ slots) = (not slot.optional || apart slot.tag slots) && distinct slots

or_not : (a b : Bool) → (not a || b) ≡ true → a ≡ true → b ≡ true
or_not true b e t = e
or_not false b e t = absurd (false≢true t)

module _ (sent stored : List ℕ) where
  -- a field stands where a value is read
  pub unused_never : (slot : Slot) (f : Field) → Fit sent stored slot f → is_unused slot.shape ≡ false
  unused_never slot f p = by slot.shape (p.picked 0)
    where
      by : (g : Shape) → value_in g 0 (value_bytes sent stored f.value) ≡ Some (moved sent stored 0 f.value) → is_unused g ≡ false
      by shape.Nothing e = absurd (is_never (moved sent stored 0 f.value) e)
      by (shape.OneOf a b c d g) e = refl
      by (shape.Range least most) e = refl
      by (shape.Listed a b c d g h i j) e = refl
      by (shape.Exact w x y z) e = refl
      by shape.OrderId e = refl
      by (shape.Text most low) e = refl
      by shape.Digits e = refl
      by shape.Time e = refl
      by (shape.Level q) e = refl
      by (shape.Average q) e = refl

  apart_starts : (sum g : ℕ) (slots : List Slot) (fs : List Field) → Filled sent stored slots fs → apart g slots ≡ true → starts (label g) (row_bytes sent stored fs ++ trailer sum) ≡ false
  unfolding trailer
  apart_starts sum g slots fs filled_none e = ap (starts (label g)) (sym (append-nil (written 10 (places 3 sum)))) ∙ written_starts g 10 (places 3 sum) [] e
  apart_starts sum g slots fs (filled_some {slot} {f} {slots = ss} {fs = gs} p r) e =
      let a = is_unused slot.shape in
      let b = differ (label g) (label slot.tag) in
      rw (fit_bytes sent stored slot f p, append_assoc (written slot.tag (value_bytes sent stored f.value)) (row_bytes sent stored gs) (trailer sum))
      (written_starts g slot.tag (value_bytes sent stored f.value) (row_bytes sent stored gs ++ trailer sum) (or_r a b (both_l (a || b) (apart g ss) e) (unused_never slot f p)))
  apart_starts sum g slots fs (filled_skip {slot} {f} {slots = ss} {fs = gs} fe o r) e =
      rw (ap (field_bytes sent stored) fe ∙ field_none sent stored (field slot.tag Absent) refl)
      (apart_starts sum g ss gs r (both_r (is_unused slot.shape || differ (label g) (label slot.tag)) (apart g ss) e))

  pub filled_fits : (sum : ℕ) (slots : List Slot) (fs : List Field) → Filled sent stored slots fs → distinct slots ≡ true → Fits sent stored (trailer sum) slots fs
  filled_fits sum slots fs filled_none e = fits_none
  filled_fits sum slots fs (filled_some {slot} {slots = ss} {fs = gs} p r) e =
      fits_some p (filled_fits sum ss gs r (both_r (not slot.optional || apart slot.tag ss) (distinct ss) e))
  filled_fits sum slots fs (filled_skip {slot} {slots = ss} {fs = gs} fe o r) e =
      let a = not slot.optional || apart slot.tag ss in
      fits_skip fe o (apart_starts sum slot.tag ss gs r (or_not slot.optional (apart slot.tag ss) (both_l a (distinct ss) e) o))
      (filled_fits sum ss gs r (both_r a (distinct ss) e))

-- ---- 35 and 150

-- the first character of the value of the first field with a tag, or the SOH behind it
abbrev pub first_byte : List ℕ → List ℕ → Value → ℕ
first_byte sent stored v = get_or (value_bytes sent stored v ++ (1 ∷ [])) 0 0

abbrev pub head_in : List ℕ → List ℕ → ℕ → List Field → ℕ
head_in sent stored g fs = at_tag (first_byte sent stored) 0 g fs

-- the tag is always there, and none of those in front begins with it
abbrev pub tells : ℕ → List Slot → Bool
tells g [] = false
tells g (slot ∷ slots) =
    cond (eqb slot.tag g) (not slot.optional)
    ((ltb slot.tag 10000 && differ (label g) (label slot.tag) || is_unused slot.shape) && tells g slots)

module _ (sent stored post : List ℕ) (g : ℕ) where
  head_hit : (v rest : List ℕ) → first_of (written g v ++ rest) g ≡ get_or (v ++ (1 ∷ [])) 0 0
  unfolding written
  head_hit [] rest =
      let z : label g ++ [] ++ (1 ∷ []) ++ rest ≡ label g ++ (1 ∷ rest) = simp append_assoc in
      ap (λ (s : List ℕ). first_of s g) z ∙ hit g 1 rest
  head_hit (b ∷ v) rest =
      let z : label g ++ (b ∷ v) ++ (1 ∷ []) ++ rest ≡ label g ++ (b ∷ (v ++ (1 ∷ rest))) = simp append_assoc in
      ap (λ (s : List ℕ). first_of s g) z ∙ hit g b (v ++ (1 ∷ rest))

  pub row_head : (slots : List Slot) (fs : List Field) → Filled sent stored slots fs → tells g slots ≡ true → first_of (row_bytes sent stored fs ++ post) g ≡ head_in sent stored g fs
  row_head slots fs filled_none e = absurd (false≢true e)
  row_head slots fs (filled_some {slot} {f} {slots = ss} {fs = gs} p r) e =
      let v = value_bytes sent stored f.value in
      rw (fit_bytes sent stored slot f p, append_assoc (written slot.tag v) (row_bytes sent stored gs) post, p.tag_is)
      (split (eqb slot.tag g)
      (λ t. rw (t, eqb-true slot.tag g t) (head_hit v (row_bytes sent stored gs ++ post)))
      (λ t.
      let a = ltb slot.tag 10000 in
      let b = differ (label g) (label slot.tag) in
      let u = is_unused slot.shape in
      let z : ((a && b || u) && tells g ss) ≡ true = rw t at e in
      let ab = or_l_of (a && b) u (both_l (a && b || u) (tells g ss) z) (unused_never sent stored slot f p) in
      let clean = (taken slot.shape 0 v (moved sent stored 0 f.value) p.proper (p.picked 0)).clean in
      rw t (pass g slot.tag v (row_bytes sent stored gs ++ post) clean (ltb-true slot.tag 10000 (both_l a b ab)) (both_r a b ab) ∙ row_head ss gs r (both_r (a && b || u) (tells g ss) z))))
    where
      or_l_of : (a b : Bool) → (a || b) ≡ true → b ≡ false → a ≡ true
      or_l_of true b e f = refl
      or_l_of false b e f = absurd (false≢true (sym f ∙ e))
  row_head slots fs (filled_skip {slot} {f} {slots = ss} {fs = gs} fe o r) e =
      rw (ap (field_bytes sent stored) fe ∙ field_none sent stored (field slot.tag Absent) refl, ap (λ (h : Field). h.tag) fe)
      (split (eqb slot.tag g)
      (λ t. let z : not slot.optional ≡ true = rw t at e in absurd (false≢true (sym (not-true slot.optional z) ∙ o)))
      (λ t.
      let a = ltb slot.tag 10000 && differ (label g) (label slot.tag) || is_unused slot.shape in
      let z : (a && tells g ss) ≡ true = rw t at e in
      rw t (row_head ss gs r (both_r a (tells g ss) z))))

-- the kind of a written report is that of the row's 35 and 150
pub kind_in : (sent stored : List ℕ) (slots : List Slot) (fs : List Field) → Filled sent stored slots fs → length (row_bytes sent stored fs) ≤ 489
    → tells 35 slots ≡ true → tells 150 slots ≡ true → kind_of (report_bytes (row_bytes sent stored fs)) ≡ kind_for (head_in sent stored 35 fs) (head_in sent stored 150 fs)
unfolding kind_of label decimal
kind_in sent stored slots fs p h a b =
    let body = row_bytes sent stored fs in
    let post = trailer (check_sum (front body)) in
    let x : first_of (report_bytes body) 35 ≡ head_in sent stored 35 fs = report_first 35 body h refl refl ∙ row_head sent stored post 35 slots fs p a in
    let y : first_of (report_bytes body) 150 ≡ head_in sent stored 150 fs = report_first 150 body h refl refl ∙ row_head sent stored post 150 slots fs p b in
    ap (λ (c : ℕ). kind_for c (first_of (report_bytes body) 150)) x ∙ ap (kind_for (head_in sent stored 35 fs)) y
