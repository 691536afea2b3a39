-- Rows that fit their slots: a list of what each slot takes, and one computed test that tags stand where the slots have them.
use Prim.Native.Nat.{ℕ, zero, suc}
use mathlib.Core.Path.{◌≡◌, refl, sym, ap, ◌∙◌}
use mathlib.Core.Bool.{Bool, true, false, not, ◌&&◌, ◌||◌, false≢true}
use mathlib.Core.List.{List, [], ◌∷◌, ◌++◌, append_assoc, append-nil}
use mathlib.Core.Logic.{◌⊎◌, inl, inr}
use lib.Dec.{eqb}
use lib.ListN.{replicate}
use borrow.Author.Tests.{eqb-true}
use Rattle.octets.proofs.Bools.{split, both_l, both_r}
use Rattle.decimal.specs.Writing.{decimal, places}
use Rattle.report.specs.declared.Value.{Value}
use Rattle.report.specs.declared.Value.TheVariants.{Absent}
use Rattle.report.specs.declared.Field.{Field}
use Rattle.report.specs.declared.Shape.{Shape}
use Rattle.report.specs.declared.Slot.{Slot}
use Rattle.report.specs.Fields.{field, is_absent, value_bytes, label, written, field_bytes, row_bytes}
use Rattle.report.specs.Frame.{trailer}
use Rattle.report.specs.Parse.{starts}
use Rattle.report.specs.Slots.{unused}
use Rattle.report.proofs.Bytes.{row_append}
use Rattle.report.proofs.Labels.{differ, written_starts}
use Rattle.report.proofs.Taken.{Proper}
use Rattle.report.proofs.Only.{AllProper}
use Rattle.report.proofs.Back.{Fits, fits_none, fits_some, fits_skip}
use Rattle.readback.proofs.Takes.{Takes}

-- ---- labels

-- a tag is none of a row's, but for fields of no value
abbrev pub all_other : ℕ → List Field → Bool
all_other g [] = true
all_other g (f ∷ fs) = (differ (label g) (label f.tag) || is_absent f.value) && all_other g fs

or_left : (a b : Bool) → (a || b) ≡ true → b ≡ false → a ≡ true
or_left true b e t = refl
or_left false b e t = absurd (false≢true (sym t ∙ e))

module _ (sent stored : List ℕ) where
  -- so no field of the row begins with its label
  other_starts : (g : ℕ) (fs : List Field) (rest : List ℕ) → all_other g fs ≡ true → starts (label g) rest ≡ false → starts (label g) (row_bytes sent stored fs ++ rest) ≡ false
  unfolding field_bytes
  other_starts g [] rest e s = s
  other_starts g (f ∷ fs) rest e s =
      let d = differ (label g) (label f.tag) in
      let n = is_absent f.value in
      split n
      (λ t. rw t (other_starts g fs rest (both_r (d || n) (all_other g fs) e) s))
      (λ t. rw (t, append_assoc (written f.tag (value_bytes sent stored f.value)) (row_bytes sent stored fs) rest)
      (written_starts g f.tag (value_bytes sent stored f.value) (row_bytes sent stored fs ++ rest) (or_left d n (both_l (d || n) (all_other g fs) e) t)))

  -- ---- what is behind the last field
  rest_starts : (n sum g : ℕ) → differ (label g) (label 10) ≡ true → starts (label g) (row_bytes sent stored (replicate n (field 0 Absent)) ++ trailer sum) ≡ false
  unfolding field_bytes trailer
  rest_starts zero sum g e = ap (starts (label g)) (sym (append-nil (written 10 (places 3 sum)))) ∙ written_starts g 10 (places 3 sum) [] e
  rest_starts (suc n) sum g e = rest_starts n sum g e

  rest_fits : (n sum : ℕ) → Fits sent stored (trailer sum) (replicate n unused) (replicate n (field 0 Absent))
  unfolding label decimal
  rest_fits zero sum = fits_none
  rest_fits (suc n) sum = fits_skip refl refl (rest_starts n sum 0 refl) (rest_fits n sum)

  -- ---- entries: a slot takes its value, or may be missing and is

  abbrev pub Entry : Bool → Shape → Value → Type 0
  Entry true f v = (v ≡ Absent) ⊎ Takes sent stored f v
  Entry false f v = Takes sent stored f v

  abbrev pub Entries : List Slot → List Field → Type 0
  Entries [] [] = Unit {0}
  Entries [] (f ∷ fs) = ⊥
  Entries (slot ∷ slots) [] = ⊥
  Entries (slot ∷ slots) (f ∷ fs) = Entry slot.optional slot.shape f.value × Entries slots fs

-- each tag is its slot's, and no field behind one that may be missing has its tag
abbrev pub tagged : List Slot → List Field → Bool
tagged [] [] = true
tagged [] (f ∷ fs) = false
tagged (slot ∷ slots) [] = false
tagged (slot ∷ slots) (f ∷ fs) =
    eqb f.tag slot.tag && (not slot.optional || (all_other slot.tag fs && differ (label slot.tag) (label 10))) && tagged slots fs

or_not : (a b : Bool) → (not a || b) ≡ true → a ≡ true → b ≡ true
or_not true b e t = e
or_not false b e t = absurd (false≢true t)

module _ (sent stored : List ℕ) (n sum : ℕ) where
  -- the bytes behind a field of the row: the row's rest, nothing, and 10
  behind : (g : ℕ) (fs : List Field) → (all_other g fs && differ (label g) (label 10)) ≡ true
      → starts (label g) (row_bytes sent stored (fs ++ replicate n (field 0 Absent)) ++ trailer sum) ≡ false
  behind g fs e =
      let r = replicate n (field 0 Absent) in
      let z : row_bytes sent stored (fs ++ r) ++ trailer sum ≡ row_bytes sent stored fs ++ (row_bytes sent stored r ++ trailer sum) =
      ap (λ (l : List ℕ). l ++ trailer sum) (row_append sent stored fs r) ∙ append_assoc (row_bytes sent stored fs) (row_bytes sent stored r) (trailer sum) in
      ap (starts (label g)) z
      ∙ other_starts sent stored g fs (row_bytes sent stored r ++ trailer sum) (both_l (all_other g fs) (differ (label g) (label 10)) e)
      (rest_starts sent stored n sum g (both_r (all_other g fs) (differ (label g) (label 10)) e))

  one_fits : (opt : Bool) (slot : Slot) (f : Field) (slots : List Slot) (fs : List Field) → slot.optional ≡ opt → Proper slot.shape → f.tag ≡ slot.tag
      → (opt ≡ true → (all_other slot.tag fs && differ (label slot.tag) (label 10)) ≡ true) → Entry sent stored opt slot.shape f.value
      → Fits sent stored (trailer sum) slots (fs ++ replicate n (field 0 Absent))
      → Fits sent stored (trailer sum) (slot ∷ slots) (f ∷ fs ++ replicate n (field 0 Absent))
  one_fits true slot f slots fs o p t e (inl a) r =
      let z : f ≡ field slot.tag Absent = same f slot.tag Absent t a in
      fits_skip z o (behind slot.tag fs (e refl)) r
    where
      same : (f : Field) (tag : ℕ) (v : Value) → f.tag ≡ tag → f.value ≡ v → f ≡ field tag v
      same f tag v p q = λ j. record { tag = p j; value = q j }
  one_fits true slot f slots fs o p t e (inr k) r = fits_some (record { tag_is = t; here = k.here; proper = p; picked = k.picked }) r
  one_fits false slot f slots fs o p t e k r = fits_some (record { tag_is = t; here = k.here; proper = p; picked = k.picked }) r

  -- the fields fit their slots, with nothing behind them
  pub all_fit : (slots : List Slot) (fs : List Field) → AllProper (slots ++ replicate n unused) → tagged slots fs ≡ true → Entries sent stored slots fs
      → Fits sent stored (trailer sum) (slots ++ replicate n unused) (fs ++ replicate n (field 0 Absent))
  all_fit [] [] p t e = rest_fits sent stored n sum
  all_fit [] (f ∷ fs) p t e = absurd e
  all_fit (slot ∷ slots) [] p t e = absurd e
  all_fit (slot ∷ slots) (f ∷ fs) p t e =
      let a = eqb f.tag slot.tag in
      let c = all_other slot.tag fs && differ (label slot.tag) (label 10) in
      let b = not slot.optional || c in
      let ab = both_l (a && b) (tagged slots fs) t in
      one_fits slot.optional slot f (slots ++ replicate n unused) fs refl p.0 (eqb-true f.tag slot.tag (both_l a b ab)) (or_not slot.optional c (both_r a b ab)) e.0
      (all_fit slots fs p.1 (both_r (a && b) (tagged slots fs) t) e.1)
