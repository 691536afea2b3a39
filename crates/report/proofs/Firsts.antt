-- Which kind a written report is: 35 and 150 are found where they stand, since no value of the row holds an SOH.
use Prim.Native.Nat.{ℕ, zero, suc, ◌+◌, ◌≤◌, ◌<◌}
use native.Mathlib.Omega.{arith}
use mathlib.Core.Path.{◌≡◌, refl, sym, ap, ◌∙◌}
use mathlib.Core.Bool.{Bool, true, false, ◌&&◌, false≢true}
use mathlib.Core.List.{List, [], ◌∷◌, ◌++◌, append_assoc}
use lib.Dec.{ltb}
use lib.ListN.{length, drop, get_or, length-append}
use lib.Seq.{drop_at, get_or-append-add, get_or_at}
use borrow.Author.Tests.{ne_eqb, ltb-true}
use Rattle.octets.proofs.Bools.{split, both_l, both_r}
use Rattle.decimal.specs.Writing.{decimal}
use Rattle.decimal.proofs.Afters.{digits_decimal}
use Rattle.report.specs.declared.Value.TheVariants.{Absent, Char}
use Rattle.report.specs.declared.Field.{Field}
use Rattle.report.specs.declared.Slot.{Slot}
use Rattle.report.specs.declared.Kind.TheVariants.{CancelReject, SessionReject}
use Rattle.report.specs.Fields.{field, is_absent, value_bytes, label, written, field_bytes, row_bytes}
use Rattle.report.specs.Frame.{check_sum, version, front, trailer, report_bytes}
use Rattle.report.specs.Parse.{hop, place_of}
use Rattle.report.specs.Reports.{execution_for, kind_for, first_of, kind_of}
use Rattle.report.proofs.Labels.{differ, written_starts}
use Rattle.report.proofs.Walks.{fresh, found}
use Rattle.report.proofs.Taken.{NoSoh, taken, clean_append, clean_digits}
use Rattle.report.proofs.Back.{Fits, fits_none, fits_some, fits_skip, moved, starts_back}

-- ---- passing a field
hop_past : (x rest : List ℕ) → NoSoh x → hop (x ++ (1 ∷ rest)) ≡ suc (length x)
unfolding hop
hop_past [] rest n = refl
hop_past (b ∷ x) rest n = rw (ne_eqb b 1 n.0) (ap suc (hop_past x rest n.1))

label_clean : (tag : ℕ) → tag < 10000 → NoSoh (label tag)
unfolding label
label_clean tag h = clean_append (decimal tag) (61 ∷ []) (clean_digits (decimal tag) (digits_decimal tag (omega (arith, h)))) ((λ q. omega (arith, q)), tt)

module _ (tag : ℕ) (v : List ℕ) where
  written_is : written tag v ≡ (label tag ++ v) ++ (1 ∷ [])
  unfolding written
  written_is = refl

  written_long : length (written tag v) ≡ suc (length (label tag ++ v))
  written_long = ap length written_is ∙ length-append (label tag ++ v) (1 ∷ []) ∙ omega arith

  hop_written : (rest : List ℕ) → NoSoh v → tag < 10000 → hop (written tag v ++ rest) ≡ length (written tag v)
  hop_written rest n h =
      ap (λ (l : List ℕ). hop (l ++ rest)) written_is
      ∙ ap hop (append_assoc (label tag ++ v) (1 ∷ []) rest)
      ∙ hop_past (label tag ++ v) rest (clean_append (label tag) v (label_clean tag h) n)
      ∙ sym written_long

-- the first character of a tag's value is looked for behind a field of another tag
pub pass : (g tag : ℕ) (v rest : List ℕ) → NoSoh v → tag < 10000 → differ (label g) (label tag) ≡ true → first_of (written tag v ++ rest) g ≡ first_of rest g
unfolding first_of
pass g tag v rest n h d =
    let lab = label g in
    let w = written tag v in
    let some : 0 < length (w ++ rest) = omega (arith, length-append w rest, written_long tag v) in
    let place : place_of lab true (w ++ rest) ≡ length w + place_of lab true rest =
    fresh lab (w ++ rest) (written_starts g tag v rest d) some
    ∙ ap (λ (k : ℕ). k + place_of lab true (drop k (w ++ rest))) (hop_written tag v rest n h)
    ∙ ap (λ (l : List ℕ). length w + place_of lab true l) (drop_at w rest (length w) refl) in
    let at : place_of lab true (w ++ rest) + length lab ≡ length w + (place_of lab true rest + length lab) = omega (arith, place) in
    ap (λ (k : ℕ). get_or (w ++ rest) k 0) at ∙ get_or-append-add w rest (place_of lab true rest + length lab) 0

-- and found where it stands
pub hit : (g c : ℕ) (rest : List ℕ) → first_of (label g ++ (c ∷ rest)) g ≡ c
unfolding first_of
hit g c rest =
    let s = label g ++ (c ∷ rest) in
    let some : 0 < length s = omega (arith, length-append (label g) (c ∷ rest)) in
    let at : place_of (label g) true s + length (label g) ≡ length (label g) = omega (arith, found (label g) s (starts_back (label g) (c ∷ rest)) some) in
    ap (λ (k : ℕ). get_or s k 0) at ∙ get_or_at (label g) c rest 0 (length (label g)) refl

-- ---- a row whose values hold no SOH
abbrev pub Clean : List ℕ → List ℕ → List Field → Type 0
Clean sent stored [] = Unit {0}
Clean sent stored (f ∷ fs) = NoSoh (value_bytes sent stored f.value) × Clean sent stored fs

pub fits_clean : (sent stored post : List ℕ) (slots : List Slot) (fs : List Field) → Fits sent stored post slots fs → Clean sent stored fs
fits_clean sent stored post slots fs fits_none = tt
fits_clean sent stored post slots fs (fits_some {slot} {f} {slots = ss} {fs = gs} p r) = (
  (taken slot.shape 0 (value_bytes sent stored f.value) (moved sent stored 0 f.value) p.proper (p.picked 0)).clean,
  fits_clean sent stored post ss gs r,
)
fits_clean sent stored post slots fs (fits_skip {slot} {f} {slots = ss} {fs = gs} fe o e r) =
    (rw fe tt, fits_clean sent stored post ss gs r)

-- the n fields in front have other tags
abbrev pub before : ℕ → ℕ → List Field → Bool
before g zero fs = true
before g (suc n) [] = false
before g (suc n) (f ∷ fs) = ltb f.tag 10000 && differ (label g) (label f.tag) && before g n fs

module _ (sent stored : List ℕ) (g c : ℕ) where
  row_first : (n : ℕ) (fs : List Field) (post : List ℕ) → Clean sent stored fs → before g n fs ≡ true → get_or fs n (field 0 Absent) ≡ field g (Char c)
      → first_of (row_bytes sent stored fs ++ post) g ≡ c
  unfolding field_bytes written
  row_first zero [] post k b e = let z : Absent ≡ Char c = ap (λ (f : Field). f.value) e in let y : ◌≡◌ {A = ℕ} 0 1 = cc in absurd (omega arith)
  row_first zero (f ∷ fs) post k b e =
      let z : row_bytes sent stored (field g (Char c) ∷ fs) ++ post ≡ label g ++ (c ∷ (1 ∷ (row_bytes sent stored fs ++ post))) = simp append_assoc in
      rw e (ap (λ (s : List ℕ). first_of s g) z ∙ hit g c (1 ∷ (row_bytes sent stored fs ++ post)))
  row_first (suc n) [] post k b e = absurd (false≢true b)
  row_first (suc n) (f ∷ fs) post k b e =
      let x = ltb f.tag 10000 in
      let y = differ (label g) (label f.tag) in
      let xy = both_l (x && y) (before g n fs) b in
      let rest = row_first n fs post k.1 (both_r (x && y) (before g n fs) b) e in
      split (is_absent f.value)
      (λ t. rw t rest)
      (λ t. rw t
      (ap (λ (s : List ℕ). first_of s g) (append_assoc (written f.tag (value_bytes sent stored f.value)) (row_bytes sent stored fs) post)
      ∙ pass g f.tag (value_bytes sent stored f.value) (row_bytes sent stored fs ++ post) k.0 (ltb-true f.tag 10000 (both_l x y xy)) (both_r x y xy)
      ∙ rest))

-- ---- a whole report
version_clean : NoSoh version
unfolding version
version_clean =
    ((λ q. omega (arith, q)), ((λ q. omega (arith, q)), ((λ q. omega (arith, q)), ((λ q. omega (arith, q)), ((λ q. omega (arith, q)), ((λ q. omega (arith, q)), ((λ q. omega (arith, q)), tt)))))))

-- 8 and 9 stand in front
pub report_first : (g : ℕ) (body : List ℕ) → length body ≤ 489 → differ (label g) (label 8) ≡ true → differ (label g) (label 9) ≡ true
    → first_of (report_bytes body) g ≡ first_of (body ++ trailer (check_sum (front body))) g
unfolding report_bytes front
report_first g body h d e =
    let n = length body in
    let tail = trailer (check_sum (written 8 version ++ written 9 (decimal n) ++ body)) in
    let s_is : written 8 version ++ written 9 (decimal n) ++ body ++ tail ≡ written 8 version ++ (written 9 (decimal n) ++ (body ++ tail)) = simp append_assoc in
    ap (λ (s : List ℕ). first_of s g) s_is
    ∙ pass g 8 version (written 9 (decimal n) ++ (body ++ tail)) version_clean (omega arith) d
    ∙ pass g 9 (decimal n) (body ++ tail) (clean_digits (decimal n) (digits_decimal n (omega arith))) (omega arith) e

module _ (sent stored : List ℕ) (fs : List Field) (h : length (row_bytes sent stored fs) ≤ 489) (k : Clean sent stored fs) where
  -- 35 stands first
  pub type_first : (c : ℕ) → get_or fs 0 (field 0 Absent) ≡ field 35 (Char c) → first_of (report_bytes (row_bytes sent stored fs)) 35 ≡ c
  unfolding label decimal
  type_first c e =
      report_first 35 (row_bytes sent stored fs) h refl refl
      ∙ row_first sent stored 35 c 0 fs (trailer (check_sum (front (row_bytes sent stored fs)))) k refl e

  -- 150 stands as the n-th field behind the first
  pub status_first : (n c : ℕ) → before 150 n fs ≡ true → get_or fs n (field 0 Absent) ≡ field 150 (Char c) → first_of (report_bytes (row_bytes sent stored fs)) 150 ≡ c
  unfolding label decimal
  status_first n c b e =
      report_first 150 (row_bytes sent stored fs) h refl refl
      ∙ row_first sent stored 150 c n fs (trailer (check_sum (front (row_bytes sent stored fs)))) k b e

  -- the kind, by 35 alone or with 150
  pub kind_cancel_reject : get_or fs 0 (field 0 Absent) ≡ field 35 (Char 57) → kind_of (report_bytes (row_bytes sent stored fs)) ≡ CancelReject
  unfolding kind_of kind_for
  kind_cancel_reject e = rw (type_first 57 e)

  pub kind_session_reject : get_or fs 0 (field 0 Absent) ≡ field 35 (Char 51) → kind_of (report_bytes (row_bytes sent stored fs)) ≡ SessionReject
  unfolding kind_of kind_for
  kind_session_reject e = rw (type_first 51 e)

  pub kind_execution : (n c : ℕ) → get_or fs 0 (field 0 Absent) ≡ field 35 (Char 56) → before 150 n fs ≡ true → get_or fs n (field 0 Absent) ≡ field 150 (Char c)
      → kind_of (report_bytes (row_bytes sent stored fs)) ≡ execution_for c
  unfolding kind_of kind_for
  kind_execution n c e b f = rw (type_first 56 e, status_first n c b f)
