-- The bytes of rows and reports: one field more, and how long they are.
use Prim.Native.Nat.{ℕ, suc, ◌+◌, ◌≤◌, ◌<◌}
use native.Mathlib.Omega.{arith}
use native.Mathlib.Numerals.{add-one}
use mathlib.Core.Path.{◌≡◌, refl, sym, ap, ◌∙◌}
use mathlib.Core.Bool.{true, false}
use mathlib.Core.List.{List, [], ◌∷◌, ◌++◌, append_assoc, append-nil}
use lib.Dec.{lit<}
use lib.ListN.{take, drop, length, get_or, length-append, take-append-drop}
use lib.Seq.{take-suc, drop-cons}
use Rattle.decimal.specs.Writing.{decimal, places}
use Rattle.decimal.proofs.Digits.{decimal_few, length_places}
use Rattle.octets.specs.Written.{Room, Wrote}
use Rattle.octets.proofs.Runs.{room_first, room_then, then}
use Rattle.report.specs.declared.Field.{Field}
use Rattle.report.specs.declared.Value.TheVariants.{Absent}
use Rattle.report.specs.Fields.{field, is_absent, value_bytes, label, written, field_bytes, row_bytes}
use Rattle.report.specs.Frame.{check_sum, version, front, trailer, report_bytes}

-- ---- fields
module _ (sent stored : List ℕ) (f : Field) where
  pub field_none : is_absent f.value ≡ true → field_bytes sent stored f ≡ []
  unfolding field_bytes
  field_none e = rw e

  pub field_some : is_absent f.value ≡ false → field_bytes sent stored f ≡ label f.tag ++ value_bytes sent stored f.value ++ (1 ∷ [])
  unfolding field_bytes written
  field_some e = rw e

-- ---- rows
module _ (sent stored : List ℕ) where
  pub row_append : (xs ys : List Field) → row_bytes sent stored (xs ++ ys) ≡ row_bytes sent stored xs ++ row_bytes sent stored ys
  row_append [] ys = refl
  row_append (x ∷ xs) ys =
      ap (λ (l : List ℕ). field_bytes sent stored x ++ l) (row_append xs ys)
      ∙ sym (append_assoc (field_bytes sent stored x) (row_bytes sent stored xs) (row_bytes sent stored ys))

  -- one field more
  pub row_more : (xs : List Field) (i : ℕ) (d : Field) → i < length xs
      → row_bytes sent stored (take (suc i) xs) ≡ row_bytes sent stored (take i xs) ++ field_bytes sent stored (get_or xs i d)
  row_more xs i d h =
      ap (row_bytes sent stored) (take-suc xs i d h) ∙ row_append (take i xs) (get_or xs i d ∷ [])
      ∙ ap (λ (l : List ℕ). row_bytes sent stored (take i xs) ++ l) (append-nil (field_bytes sent stored (get_or xs i d)))

  -- all of them: those before i, the one at i, and those after
  pub row_split : (xs : List Field) (i : ℕ) (d : Field) → i < length xs
      → row_bytes sent stored xs ≡ (row_bytes sent stored (take i xs) ++ field_bytes sent stored (get_or xs i d)) ++ row_bytes sent stored (drop (suc i) xs)
  row_split xs i d h =
      ap (row_bytes sent stored) (sym (take-append-drop i xs))
      ∙ row_append (take i xs) (drop i xs)
      ∙ ap (λ (l : List Field). row_bytes sent stored (take i xs) ++ row_bytes sent stored l) (drop-cons xs i d h)
      ∙ sym (append_assoc (row_bytes sent stored (take i xs)) (field_bytes sent stored (get_or xs i d)) (row_bytes sent stored (drop (suc i) xs)))

-- ---- lengths
pub length_written : (tag : ℕ) (value : List ℕ) → length (written tag value) ≡ length (decimal tag) + length value + 2
unfolding written label
length_written tag value =
    omega (
      arith,
      length-append (decimal tag ++ (61 ∷ []) ++ value) (1 ∷ []),
      length-append (decimal tag ++ (61 ∷ [])) value,
      length-append (decimal tag) (61 ∷ []),
    )

-- 8 and 9 take at most 16 bytes, and 10 takes 7
pub front_length : (body : List ℕ) → length body ≤ 489 → length (front body) ≤ 16 + length body
unfolding front version
front_length body h =
    omega (
      arith,
      length-append (written 8 version ++ written 9 (decimal (length body))) body,
      length-append (written 8 version) (written 9 (decimal (length body))),
      length_written 8 version,
      length_written 9 (decimal (length body)),
      decimal_few 0 8 (lit< tt),
      decimal_few 0 9 (lit< tt),
      decimal_few 2 (length body) (omega (arith, h)),
    )

pub trailer_length : (sum : ℕ) → length (trailer sum) ≡ 7
unfolding trailer decimal
trailer_length sum = omega (arith, length_written 10 (places 3 sum), length_places 3 sum)

-- a report whose body has at most 489 bytes has at most 512
pub report_length : (body : List ℕ) → length body ≤ 489 → length (report_bytes body) ≤ 512
unfolding report_bytes
report_length body h =
    omega (arith, length-append (front body) (trailer (check_sum (front body))), front_length body h, trailer_length (check_sum (front body)))

-- ---- writing the fields of a row one after another: room for the next, and what its writing comes to
module _ {area : List ℕ} {at : ℕ} (sent stored : List ℕ) (row : List Field) (i : ℕ) (h : i < length row) where
  pub next_room : {after : List ℕ} {next : ℕ} → Room area at (row_bytes sent stored row) → Wrote area at (row_bytes sent stored (take i row)) next after
      → Room after next (field_bytes sent stored (get_or row i (field 0 Absent)))
  next_room r w = room_then _ (room_first _ _ (rw (row_split sent stored row i (field 0 Absent) h) at r)) w

  pub next_wrote : {after after₂ : List ℕ} {next next₂ : ℕ} → Wrote area at (row_bytes sent stored (take i row)) next after
      → Wrote after next (field_bytes sent stored (get_or row i (field 0 Absent))) next₂ after₂
      → Wrote area at (row_bytes sent stored (take (i + 1) row)) next₂ after₂
  next_wrote w v = rw (add-one i, row_more sent stored row i (field 0 Absent) h) (then w v)

-- 8=FIX.4.2 and SOH
pub version_bytes : 56 ∷ 61 ∷ 70 ∷ 73 ∷ 88 ∷ 46 ∷ 52 ∷ 46 ∷ 50 ∷ 1 ∷ [] ≡ written 8 version
unfolding written label version decimal
version_bytes = refl
