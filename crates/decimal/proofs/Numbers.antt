-- Digits and the numbers that they say: the bounds, and what a loop over the digits wants.
use Prim.Native.Nat.{ℕ, suc, ◌+◌, ◌-◌, ◌*◌, ◌^◌, ◌≤◌, ◌<◌}
use mathlib.Core.Path.{◌≡◌, refl, ◌∙◌}
use mathlib.Core.List.{List, [], ◌∷◌}
use mathlib.Core.Bool.{Bool, true, false, cond, ◌&&◌, and-false}
use native.Mathlib.Omega.{arith}
use native.Mathlib.Numerals.{add-one}
use native.Mathlib.Nat.{pow-le-pow_right, pow-suc, add-zero, zero-add, add-suc, suc-add}
use lib.Dec.{ltb, leb, eqb}
use lib.ListN.{length, get_or, take, drop, length-take, drop_of_length-le}
use lib.Seq.{drop-cons}
use mir.Syntax.{w64}
use mir.Val.{Fits}
use borrow.Author.Tests.{leb-true, eqb-true, eq-eqb, ne_eqb, lt-ltb, le-leb, lt-leb}
use Rattle.std.proofs.lemmas.Option.{cond_some}
use Rattle.std.specs.Prelude.{Some, None}
use Rattle.octets.proofs.Bools.{split, both_l, both_r}
use Rattle.decimal.specs.Reading.{is_digit, digit_of, run_of, digit_run, number, number_after, is_number, num_of}
use Rattle.decimal.proofs.Scans.{passed, run_below, run_take, scan_more, scan_stop, scan_end}

-- ---- digits
pub digit_low : (b : ℕ) → is_digit b ≡ true → 48 ≤ b
unfolding is_digit
digit_low b e = leb-true 48 b (both_l (leb 48 b) (leb b 57) e)

pub digit_high : (b : ℕ) → is_digit b ≡ true → b ≤ 57
unfolding is_digit
digit_high b e = leb-true b 57 (both_r (leb 48 b) (leb b 57) e)

pub digit_is : (b : ℕ) → is_digit b ≡ true → digit_of b ≡ b - 48
unfolding digit_of
digit_is b e = rw e

pub digit_not : (b : ℕ) → is_digit b ≡ false → digit_of b ≡ 100
unfolding digit_of
digit_not b e = rw e

-- a digit is at most 9; what is none is 100
pub digit_some : (b d : ℕ) → d ≡ digit_of b → d ≤ 9 → is_digit b ≡ true
digit_some b d e h = split (is_digit b) (λ y. y) (λ n. let z : digit_of b ≡ 100 = digit_not b n in absurd (omega arith))

pub digit_none : (b d : ℕ) → d ≡ digit_of b → 9 < d → is_digit b ≡ false
digit_none b d e h = split (is_digit b) (λ y. let z : digit_of b ≡ b - 48 = digit_is b y in absurd (omega (arith, digit_high b y))) (λ n. n)

-- a digit of a list of digits
pub digit_at : (s : List ℕ) (i : ℕ) → digit_run s ≡ length s → i < length s → (48 ≤ get_or s i 0) × (get_or s i 0 ≤ 57)
digit_at s i all h =
    let d = run_below is_digit s i (omega arith) in
    (digit_low (get_or s i 0) d, digit_high (get_or s i 0) d)

-- ---- numbers
pub pow_nine : (i : ℕ) → i ≤ 9 → 10 ^ i ≤ 1000000000
pow_nine i h = pow-le-pow_right {n = 10} (omega arith) h

pub number_more : (n : ℕ) (s : List ℕ) (i : ℕ) → i < length s → number_after n (drop i s) ≡ number_after (n * 10 + (get_or s i 0 - 48)) (drop (i + 1) s)
unfolding number_after
number_more n s i h = rw (drop-cons s i 0, add-one)

pub number_end : (n : ℕ) (s : List ℕ) (i : ℕ) → length s ≤ i → number_after n (drop i s) ≡ n
unfolding number_after
number_end n s i h = rw (drop_of_length-le s {i = i} h)

-- digits say a number below that power of ten
full_tail : (t : Bool) (m n : ℕ) → cond t (suc m) 0 ≡ suc n → m ≡ n
full_tail true m n e = omega arith
full_tail false m n e = omega arith

below_after : (s : List ℕ) (n i : ℕ) → digit_run s ≡ length s → n < 10 ^ i → number_after n s < 10 ^ (i + length s)
unfolding run_of number_after
below_after [] n i all h = rw add-zero h
below_after (b ∷ s) n i all h =
    let d = passed (is_digit b) (suc (run_of is_digit s)) 0 (omega arith) in
    let ih = below_after s (n * 10 + (b - 48)) (suc i) (full_tail (is_digit b) (run_of is_digit s) (length s) all)
    (rw pow-suc (omega (arith, digit_low b d, digit_high b d))) in
    rw add-suc (rw suc-add at ih)

pub number_below : (s : List ℕ) → digit_run s ≡ length s → number s < 10 ^ length s
number_below s all = rw zero-add at (below_after s 0 0 all (omega arith))

-- ---- the invariant of reading a number: the first i digits say n
abbrev pub Digits : List ℕ → ℕ → ℕ → Type 0
Digits s n i = (i ≤ length s) × (n < 10 ^ i) × (number s ≡ number_after n (drop i s))

pub digits_more : (s : List ℕ) (n i : ℕ) → digit_run s ≡ length s → i < length s → Digits s n i → Digits s (n * 10 + (get_or s i 0 - 48)) (i + 1)
digits_more s n i all h inv =
    (omega arith, rw (add-one, pow-suc) (omega (arith, digit_at s i all h)), inv.2 ∙ number_more n s i h)

-- ---- digits read and tried together: the first i are digits and say n
pub record Tried (s : List ℕ) (n i : ℕ) : Type 0 where
  pub few : length s ≤ 9
  pub within : i ≤ length s
  pub small : n < 10 ^ i
  pub run : digit_run s ≡ i + digit_run (drop i s)
  pub said : number s ≡ number_after n (drop i s)

pub tried_start : (s : List ℕ) (m : ℕ) → length s ≤ m → m ≤ 9 → Tried s 0 0
tried_start s m l h = record { few = omega arith; within = omega arith; small = omega arith; run = omega arith; said = refl }

module _ (s : List ℕ) (n i : ℕ) (inv : Tried s n i) (h : i < length s) where
  pub tried_times : Fits w64 (n * 10)
  tried_times = record { fits = omega (arith, inv.small, pow_nine i (omega (arith, inv.few))) }

  pub tried_fits : (d : ℕ) → d ≤ 9 → Fits w64 (n * 10 + d)
  tried_fits d b = record { fits = omega (arith, inv.small, pow_nine i (omega (arith, inv.few))) }

module _ (s : List ℕ) (n i d : ℕ) (inv : Tried s n i) (h : i < length s) (e : d ≡ digit_of (get_or s i 0)) where
  pub tried_more : d ≤ 9 → Tried s (n * 10 + d) (i + 1)
  tried_more b =
      let y = digit_some (get_or s i 0) d e b in
      let z : d ≡ get_or s i 0 - 48 = e ∙ digit_is (get_or s i 0) y in
      let r = scan_more is_digit s i (inv.within, inv.run) h y in
      record {
        few = inv.few;
        within = r.0;
        small = rw (add-one, pow-suc) (omega (arith, inv.small));
        run = r.1;
        said = rw z (inv.said ∙ number_more n s i h);
      }

  pub tried_wrong : (m : ℕ) → 9 < d → None ≡ num_of m s
  unfolding num_of is_number
  tried_wrong m b =
      let r : i ≡ digit_run s = scan_stop is_digit s i (inv.within, inv.run) h (digit_none (get_or s i 0) d e b) in
      simp (← r, ne_eqb i (length s) (omega arith), and-false)

-- ---- what 1 to n digits say
module _ (m : ℕ) (s : List ℕ) where
  pub num_empty : length s ≡ 0 → None ≡ num_of m s
  unfolding num_of is_number
  num_empty h = simp h

  pub num_long : m < length s → None ≡ num_of m s
  unfolding num_of is_number
  num_long h = simp (lt-leb (length s) m h, and-false)

  pub num_is : (n i : ℕ) → (length s ≡ 0 → ⊥) → length s ≤ m → Tried s n i → length s ≤ i → Some n ≡ num_of m s
  unfolding num_of is_number
  num_is n i p q inv h =
      let r : digit_run s ≡ length s = omega (arith, scan_end is_digit s i (inv.within, inv.run) h, inv.within) in
      let z : number s ≡ n = inv.said ∙ number_end n s i h in
      simp (lt-ltb 0 (length s) (omega arith), le-leb (length s) m q, eq-eqb (digit_run s) (length s) r, z)

-- a number of 1 to m digits is below the power of ten of its length, and of m
module _ (m : ℕ) (s : List ℕ) (n : ℕ) (e : num_of m s ≡ Some n) where
  tested : (is_number m s ≡ true) × (number s ≡ n)
  unfolding num_of
  tested = cond_some (is_number m s) (number s) n e

  pub num_length : length s ≤ m
  unfolding is_number
  num_length =
      let a = ltb 0 (length s) in
      leb-true (length s) m (both_r a (leb (length s) m) (both_l (a && leb (length s) m) (eqb (digit_run s) (length s)) tested.0))

  pub num_within : n < 10 ^ length s
  unfolding is_number
  num_within =
      let a = ltb 0 (length s) in
      let b = number_below s (eqb-true (digit_run s) (length s) (both_r (a && leb (length s) m) (eqb (digit_run s) (length s)) tested.0)) in
      omega (arith, tested.1)

  pub num_below : n < 10 ^ m
  num_below = omega (arith, num_within, pow-le-pow_right {n = 10} (omega arith) num_length)

-- the digits that s starts with, as the code's `&s[..k]` gives them
module _ (s : List ℕ) (k : ℕ) (e : k ≡ digit_run s) where
  pub run_digits : k ≤ 9 → (length (take k s) ≤ 9) × (digit_run (take k s) ≡ length (take k s))
  run_digits h = (simp length-take (omega arith), rw e (run_take is_digit s))

  pub run_small : (m : ℕ) → k ≤ m → number (take k s) < 10 ^ m
  run_small m h =
      let b = number_below (take k s) (rw e (run_take is_digit s)) in
      let l : length (take k s) ≤ m = simp length-take (omega arith) in
      omega (arith, pow-le-pow_right {n = 10} (omega arith) l)
