-- How many bytes from the front pass a test: what a loop over them wants at the start, one byte on, and at the end.
use Prim.Native.Nat.{ℕ, zero, suc, ◌+◌, ◌-◌, ◌≤◌, ◌<◌}
use mathlib.Core.Path.{◌≡◌, refl, sym, ap}
use mathlib.Core.List.{List, [], ◌∷◌}
use mathlib.Core.Bool.{Bool, true, false, cond}
use native.Mathlib.Omega.{arith}
use native.Mathlib.Numerals.{add-one}
use native.Mathlib.Nat.{not-suc-le-zero, le_of_suc-le-suc, le_of_eq, suc-ne-zero}
use lib.ListN.{length, get_or, take, drop, length-drop, drop_of_length-le, get_or-eq_default}
use lib.Seq.{drop-cons, take_all}
use Rattle.octets.proofs.Bools.{split}
use Rattle.decimal.specs.Reading.{run_of}

-- the rest of s from i on, as the code's `&s[i..]` gives it
pub rest_is : (s : List ℕ) (i : ℕ) → take (length s - i) (drop i s) ≡ drop i s
rest_is s i = take_all (length s - i) (drop i s) (le_of_eq (length-drop i s))

-- past the end there is 0
pub byte_past : (s : List ℕ) (i : ℕ) → length s ≤ i → 0 ≡ get_or s i 0
byte_past s i h = sym (get_or-eq_default s 0 {n = i} h)

-- a byte that is not 0 stands within the text
pub byte_within : (s : List ℕ) (i b : ℕ) → get_or s i 0 ≡ suc b → i < length s
byte_within [] i b e = absurd (suc-ne-zero b (sym e))
byte_within (x ∷ s) zero b e = omega arith
byte_within (x ∷ s) (suc i) b e = omega (arith, byte_within s i b e)

-- ---- the run from i on
pub run_step : (p : ℕ → Bool) (s : List ℕ) (i : ℕ) → i < length s → p (get_or s i 0) ≡ true → run_of p (drop i s) ≡ suc (run_of p (drop (i + 1) s))
unfolding run_of
run_step p s i h e = rw (drop-cons s i 0, e, add-one)

pub run_stop : (p : ℕ → Bool) (s : List ℕ) (i : ℕ) → i < length s → p (get_or s i 0) ≡ false → run_of p (drop i s) ≡ 0
unfolding run_of
run_stop p s i h e = rw (drop-cons s i 0, e)

pub run_end : (p : ℕ → Bool) (s : List ℕ) (i : ℕ) → length s ≤ i → run_of p (drop i s) ≡ 0
unfolding run_of
run_end p s i h = rw (drop_of_length-le s {i = i} h)

pub run_le : (p : ℕ → Bool) (s : List ℕ) → run_of p s ≤ length s
unfolding run_of
run_le p [] = omega arith
run_le p (b ∷ s) =
    let ih = run_le p s in
    split (p b) (λ e. rw e (omega arith)) (λ e. rw e (omega arith))

-- a number that a test lets through only if it passes
pub passed : (t : Bool) (m i : ℕ) → i < cond t m 0 → t ≡ true
passed true m i h = refl
passed false m i h = absurd (not-suc-le-zero h)

pub let_in : (t : Bool) (m i : ℕ) → i < cond t m 0 → i < m
let_in true m i h = h
let_in false m i h = absurd (not-suc-le-zero h)

-- each byte of the run passes the test
pub run_below : (p : ℕ → Bool) (s : List ℕ) (i : ℕ) → i < run_of p s → p (get_or s i 0) ≡ true
unfolding run_of
run_below p [] i h = absurd (not-suc-le-zero h)
run_below p (b ∷ s) zero h = passed (p b) (suc (run_of p s)) 0 h
run_below p (b ∷ s) (suc i) h = run_below p s i (le_of_suc-le-suc (let_in (p b) (suc (run_of p s)) (suc i) h))

-- the run of s is a list whose every byte passes
pub run_take : (p : ℕ → Bool) (s : List ℕ) → run_of p (take (run_of p s) s) ≡ length (take (run_of p s) s)
unfolding run_of
run_take p [] = refl
run_take p (b ∷ s) =
    let ih = run_take p s in
    split (p b) (λ e. rw (e, e) (ap suc ih)) (λ e. rw e refl)

-- a run from v on ends within s
pub run_within : (p : ℕ → Bool) (s : List ℕ) (v n : ℕ) → v ≤ length s → n ≡ run_of p (take (length s - v) (drop v s)) → v + n ≤ length s
run_within p s v n h e = omega (arith, e, simp (rest_is, length-drop) at (run_le p (take (length s - v) (drop v s))), ap (run_of p) (rest_is s v))

-- ---- the invariant of a scan: i bytes have passed the test
abbrev pub Scan : (ℕ → Bool) → List ℕ → ℕ → Type 0
Scan p s i = (i ≤ length s) × (run_of p s ≡ i + run_of p (drop i s))

module _ (p : ℕ → Bool) (s : List ℕ) (i : ℕ) (inv : Scan p s i) where
  pub scan_more : i < length s → p (get_or s i 0) ≡ true → Scan p s (i + 1)
  scan_more h e = omega (arith, run_step p s i h e)

  pub scan_stop : i < length s → p (get_or s i 0) ≡ false → i ≡ run_of p s
  scan_stop h e = omega (arith, run_stop p s i h e)

  pub scan_end : length s ≤ i → i ≡ run_of p s
  scan_end h = omega (arith, run_end p s i h)
