-- The tag and the field that a message starts with, test by test in the order in which they are read.
use Rattle.std.proofs.Common.{Option, Some, None, ◌≡◌, ℕ, suc, ◌+◌, ◌-◌, ◌*◌, ◌^◌, ◌<◌, ◌≤◌, Bool, true, false, cond, not, ◌&&◌, eqb, ltb, leb, List, [], ◌∷◌, length, get_or, take, drop, sym, refl, ap, ◌∙◌, ⊎_elim, pow-suc, suc-ne-zero, add-one, arith, drop-cons, w64, Fits, eq-eqb, ne_eqb, eqb-true}
use mathlib.Core.Bool.{and-false}
use native.Mathlib.Nat.{pow-le-pow_right}
use lib.ListN.{get_or-eq_default}
use borrow.Author.Tests.{eqb-false, lt-leb, not-true}
use Rattle.octets.proofs.Bools.{split, not_both, both_l, both_r}
use Rattle.octets.proofs.Places.{below_or}
use Rattle.decimal.specs.Reading.{is_digit, digit_of, run_of, digit_run}
use Rattle.decimal.proofs.Scans.{rest_is, run_step, run_within, scan_more, scan_stop, scan_end}
use Rattle.decimal.proofs.Numbers.{digit_is, digit_some, digit_none, digit_low}
use Rattle.fix.specs.declared.fields.Tag.{Tag}
use Rattle.fix.specs.declared.fields.Field.TheVariants.{Good, Broken}
use Rattle.fix.specs.Fields.{is_text, text_run, starts_tag, leading, tag_of, value_from, value_len, field_of, as_field}

-- a byte that is not 0 is within the list
pub there : (s : List ℕ) (i b : ℕ) → get_or s i 0 ≡ suc b → i < length s
there s i b e =
    ⊎_elim (λ h. h) (λ l. absurd (suc-ne-zero b (sym e ∙ get_or-eq_default s 0 {n = i} l))) (below_or i (length s))

four : (i : ℕ) → i ≤ 4 → 10 ^ i ≤ 10000
four i h = pow-le-pow_right {n = 10} (omega arith) h

-- ---- the invariant of reading a tag: the first i bytes are digits and say n
pub record Spelled (s : List ℕ) (n i : ℕ) : Type 0 where
  pub within : i ≤ length s
  pub few : i ≤ 4
  pub small : n < 10 ^ i
  pub run : digit_run s ≡ i + digit_run (drop i s)
  pub said : leading 0 s ≡ leading n (drop i s)

pub spelled_start : (s : List ℕ) → Spelled s 0 0
spelled_start s = record { within = omega arith; few = omega arith; small = omega arith; run = omega arith; said = refl }

leading_more : (n : ℕ) (s : List ℕ) (i : ℕ) → i < length s → is_digit (get_or s i 0) ≡ true
    → leading n (drop i s) ≡ leading (n * 10 + (get_or s i 0 - 48)) (drop (i + 1) s)
unfolding leading
leading_more n s i h e = rw (drop-cons s i 0, e, add-one)

leading_stop : (n : ℕ) (s : List ℕ) (i : ℕ) → i < length s → is_digit (get_or s i 0) ≡ false → leading n (drop i s) ≡ n
unfolding leading
leading_stop n s i h e = rw (drop-cons s i 0, e)

module _ (s : List ℕ) (n i : ℕ) (inv : Spelled s n i) where
  pub tag_times : Fits w64 (n * 10)
  tag_times = record { fits = omega (arith, inv.small, four i inv.few) }

  pub tag_fits : (d : ℕ) → d ≤ 9 → Fits w64 (n * 10 + d)
  tag_fits d h = record { fits = omega (arith, inv.small, four i inv.few) }

  -- the digits go on to the end: no `=` follows
  pub tag_end : length s ≤ i → None ≡ tag_of s
  unfolding tag_of starts_tag
  tag_end h =
      let e : i ≡ digit_run s = scan_end is_digit s i (inv.within, inv.run) h in
      simp (← e, get_or-eq_default s 0 {n = i} h, and-false)

  module _ (d : ℕ) (h : i < length s) (e : d ≡ digit_of (get_or s i 0)) where
    pub spelled_more : d ≤ 9 → (i ≡ 4 → ⊥) → Spelled s (n * 10 + d) (i + 1)
    spelled_more b five =
        let y = digit_some (get_or s i 0) d e b in
        let z : d ≡ get_or s i 0 - 48 = e ∙ digit_is (get_or s i 0) y in
        let r = scan_more is_digit s i (inv.within, inv.run) h y in
        record {
          within = r.0;
          few = omega (arith, inv.few);
          small = rw (add-one, pow-suc) (omega (arith, inv.small));
          run = r.1;
          said = rw z (inv.said ∙ leading_more n s i h y);
        }

    -- a fifth digit
    pub tag_five : d ≤ 9 → i ≡ 4 → None ≡ tag_of s
    unfolding tag_of starts_tag
    tag_five b five =
        let r : 4 < digit_run s = omega (arith, inv.run, run_step is_digit s i h (digit_some (get_or s i 0) d e b)) in
        simp (lt-leb (digit_run s) 4 r, and-false)

    -- a byte that is no digit ends the digits
    module _ (b : 9 < d) where
      stop : i ≡ digit_run s
      stop = scan_stop is_digit s i (inv.within, inv.run) h (digit_none (get_or s i 0) d e b)

      pub tag_good : (ltb 0 i && leb i 4 && not (eqb (get_or s 0 0) 48) && eqb (get_or s i 0) 61) ≡ true → Some (record { number = n; digits = i }) ≡ tag_of s
      unfolding tag_of starts_tag
      tag_good t =
          let l : leading 0 s ≡ n = inv.said ∙ leading_stop n s i h (digit_none (get_or s i 0) d e b) in
          rw (← stop, t, l)

      pub tag_bad : (ltb 0 i && leb i 4 && not (eqb (get_or s 0 0) 48) && eqb (get_or s i 0) 61) ≡ false → None ≡ tag_of s
      unfolding tag_of starts_tag
      tag_bad t = rw (← stop, t)

-- ---- what a tag says of s
some_by : (b : Bool) (n k : ℕ) (t : Tag) → Some t ≡ cond b (Some (record { number = n; digits = k })) None → (b ≡ true) × (t.number ≡ n) × (t.digits ≡ k)
some_by true n k t e =
    let q : t ≡ record { number = n; digits = k } = cc in
    (refl, ap (λ (x : Tag). x.number) q, ap (λ (x : Tag). x.digits) q)
some_by false n k t e = let z : ◌≡◌ {A = ℕ} 0 1 = cc in absurd (suc-ne-zero 0 (sym z))

-- a tag is not 0, since its first digit is not
leading_least : (n : ℕ) (s : List ℕ) → n ≤ leading n s
unfolding leading
leading_least n [] = omega arith
leading_least n (b ∷ s) = split (is_digit b) (λ y. rw y (omega (arith, leading_least (n * 10 + (b - 48)) s))) (λ d. rw d (omega arith))

leading_some : (s : List ℕ) → starts_tag s ≡ true → 1 ≤ leading 0 s
unfolding starts_tag leading run_of
leading_some [] y = absurd (not_both y refl)
leading_some (b ∷ s) y =
    let n : eqb b 48 ≡ false = not-true (eqb b 48) (search (both_l, both_r)) in
    let k : ltb 0 (cond (is_digit b) (suc (run_of is_digit s)) 0) ≡ true = search both_l in
    split (is_digit b)
    (λ d. rw d (omega (arith, leading_least (0 * 10 + (b - 48)) s, digit_low b d, eqb-false b 48 n)))
    (λ d. absurd (not_both (rw d at k) refl))

module _ (s : List ℕ) (t : Tag) (e : Some t ≡ tag_of s) where
  told : (starts_tag s ≡ true) × (t.number ≡ leading 0 s) × (t.digits ≡ digit_run s)
  unfolding tag_of
  told = some_by (starts_tag s) (leading 0 s) (digit_run s) t e

  pub tag_nonzero : t.number ≡ 0 → ⊥
  tag_nonzero z = omega (arith, leading_some s told.0, told.1)

  -- a tag's `=` follows its digits
  pub tag_equals : get_or s t.digits 0 ≡ 61
  unfolding starts_tag
  tag_equals =
      let a = ltb 0 (digit_run s) && leb (digit_run s) 4 && not (eqb (get_or s 0 0) 48) in
      rw told.2 (eqb-true (get_or s (digit_run s) 0) 61 (both_r a (eqb (get_or s (digit_run s) 0) 61) told.0))

  -- so they do not reach the end
  pub tag_inside : t.digits < length s
  tag_inside = there s t.digits 60 tag_equals

  pub value_from_lem : t.digits + 1 ≤ length s
  value_from_lem = omega (arith, tag_inside)

  pub from_fits : length s < 2 ^ 64 → Fits w64 (t.digits + 1)
  from_fits l = record { fits = omega (arith, tag_inside) }

-- ---- the field that s starts with
cond_same : (t : Bool) (n : ℕ) → cond t n n ≡ n
cond_same true n = refl
cond_same false n = refl

module _ (s : List ℕ) (at : ℕ) (r : Option Tag) (e : r ≡ tag_of s) where
  pub field_none : r ≡ None → Broken ≡ as_field (field_of at s)
  unfolding field_of
  field_none h =
      let z : tag_of s ≡ None = sym e ∙ h in
      simp (z, cond_same)

  module _ (t : Tag) (g : r ≡ Some t) (n : ℕ) (en : n ≡ text_run (take (length s - (t.digits + 1)) (drop (t.digits + 1) s))) where
    tag_is : Some t ≡ tag_of s
    tag_is = sym g ∙ e

    from : value_from s ≡ t.digits + 1
    unfolding value_from
    from = rw (← tag_is)

    len : value_len s ≡ n
    unfolding value_len
    len = rw from (sym (en ∙ ap text_run (rest_is s (t.digits + 1))))

    pub field_other : (get_or s (t.digits + 1 + n) 0 ≡ 1 → ⊥) → Broken ≡ as_field (field_of at s)
    unfolding field_of
    field_other h = simp (from, len, ne_eqb (get_or s (t.digits + 1 + n) 0) 1 h)

    pub field_open : length s ≤ t.digits + 1 + n → Broken ≡ as_field (field_of at s)
    unfolding field_of
    field_open h = simp (from, len, get_or-eq_default s 0 {n = t.digits + 1 + n} h)

    pub field_good : get_or s (t.digits + 1 + n) 0 ≡ 1 → Good t.number (at + (t.digits + 1)) n (record { at = at + (t.digits + 1 + n) + 1 }) ≡ as_field (field_of at s)
    unfolding field_of
    field_good h =
        let p : at + (t.digits + 1 + n) + 1 ≡ at + (t.digits + 1) + n + 1 = omega arith in
        simp (from, len, eq-eqb (get_or s (t.digits + 1 + n) 0) 1 h, ← tag_is, ne_eqb t.number 0 (tag_nonzero s t tag_is), p)

    -- the value ends within s
    pub value_in_lem : t.digits + 1 + n ≤ length s
    value_in_lem = run_within is_text s (t.digits + 1) n (omega (arith, tag_inside s t tag_is)) en

    pub value_fits : length s < 2 ^ 64 → Fits w64 (t.digits + 1 + n)
    value_fits h = record { fits = omega (arith, value_in_lem) }
