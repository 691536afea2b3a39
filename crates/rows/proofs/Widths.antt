-- How many bytes a row can take: its tags' digits, the widest that each value can be, and two for each field; and how wide each
-- kind of value can be.
use Prim.Native.Nat.{ℕ, zero, suc, ◌+◌, ◌-◌, ◌^◌, ◌≤◌, ◌<◌, zero-le}
use native.Mathlib.Omega.{arith}
use mathlib.Core.Path.{◌≡◌, refl, ap, ◌∙◌}
use mathlib.Core.List.{List, [], ◌∷◌, ◌++◌, append-nil}
use lib.Dec.{lit≤, lit<, eqb}
use lib.ListN.{length, replicate, length-append, length-take, drop}
use Rattle.octets.specs.Octets.{part_at}
use Rattle.octets.proofs.Bools.{split}
use Rattle.decimal.specs.declared.Instrument.{Instrument}
use Rattle.decimal.specs.declared.Instrument.TheVariants.{Bonds, Equities}
use Rattle.decimal.specs.Instruments.{highest}
use Rattle.decimal.specs.Writing.{decimal, mean_of}
use Rattle.decimal.proofs.Digits.{decimal_few}
use Rattle.decimal.proofs.Means.{mean_range}
use Rattle.decimal.proofs.RoundTrip.{level_length, mean_length}
use Rattle.matching.specs.declared.Order.{Order}
use Rattle.matching.specs.Matching.{open_of}
use Rattle.matching.specs.Held.{Sound}
use Rattle.matching.specs.Quoted.{Quoted}
use Rattle.matching.proofs.Sounds.{minimum_most}
use Rattle.report.specs.declared.Place.{Place}
use Rattle.report.specs.declared.Value.TheVariants.{Absent, Number, Char, Word, Level, Mean}
use Rattle.report.specs.declared.Field.{Field}
use Rattle.report.specs.Fields.{is_absent, value_bytes, field_bytes, row_bytes}
use Rattle.report.proofs.Bytes.{length_written, row_append}
use Rattle.rows.specs.declared.Shown.{Shown}
use Rattle.rows.specs.declared.Fill.{Fill}
use Rattle.rows.specs.Rows.{◌is◌, text, or_number, or_nobody, digit, or_digit, group, own_field, last_field, other_field, count_field, avg_px, padded}
use Rattle.rows.specs.Ranges.{Short}

-- what holds in each of the two markets holds in both
pub of_both : {G : Type 0} (q : Instrument) → (q ≡ Bonds → G) → (q ≡ Equities → G) → G
of_both Bonds b e = b refl
of_both Equities b e = e refl

-- ---- rows

-- each value takes at most so many bytes
abbrev pub Fit : List ℕ → List ℕ → List ℕ → List Field → Type 0
Fit sent stored [] [] = Unit {0}
Fit sent stored [] (f ∷ fs) = ⊥
Fit sent stored (n ∷ ns) [] = ⊥
Fit sent stored (n ∷ ns) (f ∷ fs) = Short sent stored n f.value × Fit sent stored ns fs

-- what the fields then take at most
abbrev pub room_of : List ℕ → List Field → ℕ
room_of [] fs = 0
room_of (n ∷ ns) [] = 0
room_of (n ∷ ns) (f ∷ fs) = length (decimal f.tag) + n + 2 + room_of ns fs

module _ (sent stored : List ℕ) where
  field_room : (f : Field) (n : ℕ) → Short sent stored n f.value → length (field_bytes sent stored f) ≤ length (decimal f.tag) + n + 2
  unfolding field_bytes
  field_room f n h =
      split (is_absent f.value) (λ e. rw e zero-le)
      (λ e. rw e (omega (arith, h, length_written f.tag (value_bytes sent stored f.value))))

  pub row_room : (ns : List ℕ) (fs : List Field) → Fit sent stored ns fs → length (row_bytes sent stored fs) ≤ room_of ns fs
  row_room [] [] h = zero-le
  row_room [] (f ∷ fs) h = absurd h
  row_room (n ∷ ns) [] h = absurd h
  row_room (n ∷ ns) (f ∷ fs) h =
      omega (arith, length-append (field_bytes sent stored f) (row_bytes sent stored fs), field_room f n h.0, row_room ns fs h.1)

  -- fields with no value take nothing
  row_nothing : (n : ℕ) → row_bytes sent stored (replicate n (0 is Absent)) ≡ []
  unfolding field_bytes
  row_nothing zero = refl
  row_nothing (suc n) = row_nothing n

  pub row_padded : (row : List Field) → row_bytes sent stored (padded row) ≡ row_bytes sent stored row
  row_padded row =
      row_append sent stored row (replicate (36 - length row) (0 is Absent))
      ∙ ap (λ (l : List ℕ). row_bytes sent stored row ++ l) (row_nothing (36 - length row))
      ∙ append-nil (row_bytes sent stored row)

infixr 40 ◌&◌
pub ◌&◌ : {A B : Type 0} → A → B → A × B
a & b = (a, b)

-- ---- values
module _ (sent stored : List ℕ) where
  pub none_short : (n : ℕ) → Short sent stored n Absent
  none_short n = zero-le

  pub char_short : (c : ℕ) → Short sent stored 1 (Char c)
  char_short c = lit≤ tt

  pub word_short : (w x y z : ℕ) → Short sent stored 4 (Word w x y z)
  word_short w x y z = split (eqb z 0) (λ e. rw e (lit≤ tt)) (λ e. rw e (lit≤ tt))

  pub number_short : (k n : ℕ) → n < 10 ^ suc k → Short sent stored (suc k) (Number n)
  number_short k n h = decimal_few k n h

  pub digit_short : (n : ℕ) → Short sent stored 1 (digit n)
  unfolding digit
  digit_short n = lit≤ tt

  part_short : (s : List ℕ) (p n k : ℕ) → n ≤ k → length (part_at s p n) ≤ k
  unfolding part_at
  part_short s p n k h = omega (arith, h, length-take n (drop p s))

  pub text_short : (p : Place) (k : ℕ) → p.length ≤ k → Short sent stored k (text p)
  unfolding text
  text_short p k h =
      split p.sent (λ e. rw e (part_short sent p.start p.length k h)) (λ e. rw e (part_short stored p.start p.length k h))

  pub or_number_short : (k n : ℕ) → n < 10 ^ suc k → Short sent stored (suc k) (or_number n)
  unfolding or_number
  or_number_short k n h = split (eqb n 0) (λ e. rw e zero-le) (λ e. rw e (decimal_few k n h))

  pub or_nobody_short : (n : ℕ) → n < 10 ^ 9 → Short sent stored 9 (or_nobody n)
  unfolding or_nobody
  or_nobody_short n h = split (eqb n 0) (λ e. rw e (lit≤ tt)) (λ e. rw e (decimal_few 8 n h))

  pub level_short : (q : Instrument) (l : ℕ) → 0 < l → l ≤ highest q → Short sent stored 11 (Level q l)
  level_short q l a b = level_length q l a b

  pub mean_short : (q : Instrument) (o : Order) → Sound o → Quoted q o → Short sent stored 14 (Mean q (avg_px o))
  unfolding avg_px
  mean_short q o h k =
      let r = mean_range q o.sum o.executed h.sum_low k.sum in
      mean_length q (mean_of o.sum o.executed) r.0 r.1

  pub zero_short : (q : Instrument) → Short sent stored 14 (Mean q (mean_of 0 0))
  zero_short q = let r = mean_range q 0 0 zero-le zero-le in mean_length q (mean_of 0 0) r.0 r.1

  -- what only one of the markets has
  pub group_short : (q : Instrument) → Short sent stored 4 (group q)
  unfolding group
  group_short Bonds = lit≤ tt
  group_short Equities = lit≤ tt

  pub own_short : (q : Instrument) (o : Shown) → Short sent stored 1 (own_field q o).value
  unfolding own_field
  own_short Bonds o = number_short 0 9 (lit< tt)
  own_short Equities o = digit_short o.cash

  pub last_short : (q : Instrument) (o : Shown) → Short sent stored 1 (last_field q o).value
  unfolding last_field or_digit
  last_short Bonds o = zero-le
  last_short Equities o = split (eqb o.margin 0) (λ e. rw e zero-le) (λ e. rw e (digit_short o.margin))

  pub other_short : (q : Instrument) (f : Fill) → f.other < 10 ^ 6 → Short sent stored 6 (other_field q f).value
  unfolding other_field
  other_short Bonds f h = number_short 5 f.other h
  other_short Equities f h = zero-le

  pub count_short : (q : Instrument) → Short sent stored 1 (count_field q).value
  unfolding count_field
  count_short Bonds = number_short 0 1 (lit< tt)
  count_short Equities = zero-le

  pub open_short : (o : Order) → Sound o → Short sent stored 9 (Number (open_of o))
  unfolding open_of
  open_short o h = decimal_few 8 (open_of o) (omega (arith, h.qty_high))

  pub executed_short : (o : Order) → Sound o → Short sent stored 9 (Number o.executed)
  executed_short o h = decimal_few 8 o.executed (omega (arith, h.qty_high, h.covered))

  pub quantity_short : (o : Order) → Sound o → Short sent stored 9 (Number o.qty)
  quantity_short o h = decimal_few 8 o.qty (omega (arith, h.qty_high))

  pub least_short : (o : Order) → Sound o → Short sent stored 9 (or_number o.minqty)
  least_short o h = or_number_short 8 o.minqty (omega (arith, h.qty_high, minimum_most o h))
