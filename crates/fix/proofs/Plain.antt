-- A message that is not garbled has no byte but 20 to 7E hex and SOH.
use Rattle.std.proofs.Common.{Some, None, ◌≡◌, ℕ, zero, suc, ◌+◌, ◌-◌, ◌<◌, ◌≤◌, Bool, true, false, cond, not, ◌&&◌, ◌||◌, eqb, ltb, leb, List, [], ◌∷◌, length, get_or, drop, refl, ⊎_elim, le_of_suc-le-suc, not-suc-le-zero, eq-or-lt_of_le, arith, get_or-drop, eqb-true, le-leb}
use mathlib.Core.Bool.{or-true}
use borrow.Author.Tests.{eqb-false, not-true, not-false}
use Rattle.octets.proofs.Bools.{both_i, both_l, both_r, neither_l, neither_r}
use Rattle.octets.proofs.Places.{below_or}
use Rattle.decimal.specs.Reading.{is_digit, digit_run}
use Rattle.decimal.proofs.Scans.{run_below}
use Rattle.decimal.proofs.Numbers.{digit_low, digit_high}
use Rattle.fix.specs.Fields.{is_text, starts_tag, leading, tag_of, tag_number, value_from, value_len, field_of, fields_after, fields_from, fields_of, has_tag, repeats, clean_fields, last_tag_or}
use Rattle.fix.specs.Garbled.{headed_by, header, ordered, header_right, length_true, sum_true, garbled_message}

-- a byte that a message may have
unfoldable pub is_plain : ℕ → Bool
is_plain b = is_text b || eqb b 1

text_plain : (b : ℕ) → is_text b ≡ true → is_plain b ≡ true
unfolding is_plain
text_plain b h = rw h

digit_text : (b : ℕ) → is_digit b ≡ true → is_text b ≡ true
unfolding is_text
digit_text b h = both_i (le-leb 32 b (omega (arith, digit_low b h))) (le-leb b 126 (omega (arith, digit_high b h)))

-- ---- the bytes of one field
tag_some : (t : Bool) (u : Bool) (n k : ℕ) → eqb (cond u (tag_number (cond t (Some (record { number = n; digits = k })) None)) 0) 0 ≡ false → (t ≡ true) × (u ≡ true)
tag_some true true n k e = (refl, refl)
tag_some false true n k e = absurd (eqb-false 0 0 e refl)
tag_some t false n k e = absurd (eqb-false 0 0 e refl)

module _ (at : ℕ) (s : List ℕ) (e : eqb (field_of at s).tag 0 ≡ false) where
  both : (starts_tag s ≡ true) × (eqb (get_or s (value_from s + value_len s) 0) 1 ≡ true)
  unfolding field_of tag_of
  both = tag_some (starts_tag s) (eqb (get_or s (value_from s + value_len s) 0) 1) (leading 0 s) (digit_run s) e

  from : value_from s ≡ digit_run s + 1
  unfolding value_from tag_of
  from = rw both.0

  equals : get_or s (digit_run s) 0 ≡ 61
  unfolding starts_tag
  equals = eqb-true (get_or s (digit_run s) 0) 61 (both_r (ltb 0 (digit_run s) && leb (digit_run s) 4 && not (eqb (get_or s 0 0) 48)) (eqb (get_or s (digit_run s) 0) 61) both.0)

  in_value : (j : ℕ) → j < value_len s → is_text (get_or s (value_from s + j) 0) ≡ true
  unfolding value_len
  in_value j h = rw (← get_or-drop (value_from s) s j 0) (run_below is_text (drop (value_from s) s) j h)

  pub field_plain : (i : ℕ) → i ≤ value_from s + value_len s → is_plain (get_or s i 0) ≡ true
  unfolding is_plain is_text field_of
  field_plain i h =
      ⊎_elim (λ l. text_plain (get_or s i 0) (digit_text (get_or s i 0) (run_below is_digit s i l)))
      (λ g. ⊎_elim (λ (q : digit_run s ≡ i). rw (← q, equals))
      (λ l. ⊎_elim (λ (q : i ≡ value_from s + value_len s). rw (q, both.1, or-true))
      (λ m.
      let z : value_from s + (i - value_from s) ≡ i = omega (arith, from) in
      let t = in_value (i - value_from s) (omega (arith, from)) in
      text_plain (get_or s i 0) (rw z at t))
      (eq-or-lt_of_le h))
      (eq-or-lt_of_le g))
      (below_or i (digit_run s))

-- ---- the bytes of a run of fields
runs_plain : (s : List ℕ) (k at : ℕ) → has_tag 0 (fields_after k at s) ≡ false → (i : ℕ) → k ≤ i → i < length s → is_plain (get_or s i 0) ≡ true
unfolding fields_after has_tag field_of
runs_plain [] k at e i h l = absurd (not-suc-le-zero l)
runs_plain (b ∷ s) (suc k) at e zero h l = absurd (not-suc-le-zero h)
runs_plain (b ∷ s) (suc k) at e (suc i) h l = runs_plain s k (suc at) e i (le_of_suc-le-suc h) (le_of_suc-le-suc l)
runs_plain (b ∷ s) zero at e zero h l =
    field_plain at (b ∷ s) (neither_l (eqb (field_of at (b ∷ s)).tag 0) _ e) 0 (omega arith)
runs_plain (b ∷ s) zero at e (suc i) h l =
    let f = field_of at (b ∷ s) in
    let n = neither_l (eqb f.tag 0) _ e in
    let r = neither_r (eqb f.tag 0) _ e in
    ⊎_elim (λ (m : i < value_from (b ∷ s) + f.len). field_plain at (b ∷ s) n (suc i) m)
    (λ m. runs_plain s (value_from (b ∷ s) + f.len) (suc at) (rw n at r) i m (le_of_suc-le-suc l))
    (below_or i (value_from (b ∷ s) + f.len))

pub clear_unbroken : (s : List ℕ) → garbled_message s ≡ false → has_tag 0 (fields_of s) ≡ false
unfolding garbled_message ordered clean_fields
clear_unbroken s h =
    let all = not-false _ h in
    let a = leb 1 (length s) && leb (length s) 1024 in
    let o = ordered (fields_of s) in
    let p = both_l (a && o && header_right s && length_true s) (sum_true s) all in
    let q = both_l (a && o && header_right s) (length_true s) p in
    let r = both_r a o (both_l (a && o) (header_right s) q) in
    let c = both_l (clean_fields (fields_of s)) (headed_by header (fields_of s)) (both_l (clean_fields (fields_of s) && headed_by header (fields_of s)) (eqb (last_tag_or 0 (fields_of s)) 10) r) in
    not-true (has_tag 0 (fields_of s)) (both_l (not (has_tag 0 (fields_of s))) (not (repeats (fields_of s))) c)

-- every byte of a message that is not garbled is a character or SOH
pub clear_plain : (s : List ℕ) → garbled_message s ≡ false → (i : ℕ) → i < length s → is_plain (get_or s i 0) ≡ true
unfolding fields_from
clear_plain s h i l = runs_plain s 0 0 (clear_unbroken s h) i (omega arith) l
