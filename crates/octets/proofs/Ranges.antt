-- The laws that a loop over a range of numbers wants: `all_up_to` and `first_from` at the start, one turn on, and at the end.
use mathlib.Core.Path.{◌≡◌, refl, sym, ◌∙◌}
use mathlib.Core.Bool.{Bool, true, false}
use mathlib.Core.Logic.{⊎_elim}
use Prim.Native.Nat.{ℕ, zero, suc, ◌+◌, ◌-◌, ◌≤◌, ◌<◌, zero-le}
use native.Mathlib.Nat.{not-suc-le-zero, eq-or-lt_of_le, le_of_suc-le-suc, sub_self, sub-zero}
use native.Mathlib.Numerals.{add-one}
use native.Mathlib.Omega.{arith}
use Rattle.octets.specs.Tests.{all_up_to, first_from}
use Rattle.octets.proofs.Bools.{both_i, both_l, both_r, both_not_l, both_not_r}

-- ---- all_up_to: none below 0; one more; one that fails
pub all_none : (f : ℕ → Bool) → all_up_to f 0 ≡ true
unfolding all_up_to
all_none f = refl

pub all_more : (f : ℕ → Bool) (i : ℕ) → all_up_to f i ≡ true → f i ≡ true → all_up_to f (i + 1) ≡ true
unfolding all_up_to
all_more f i h here = rw add-one (both_i h here)

pub all_not : (f : ℕ → Bool) (n i : ℕ) → i < n → f i ≡ false → all_up_to f n ≡ false
unfolding all_up_to
all_not f zero i l h = absurd (not-suc-le-zero l)
all_not f (suc n) i l h =
    ⊎_elim (λ (e : i ≡ n). both_not_r (all_up_to f n) (f n) (rw e at h))
    (λ (k : i < n). both_not_l (all_up_to f n) (f n) (all_not f n i k h))
    (eq-or-lt_of_le (le_of_suc-le-suc l))

-- what the test says at each number, and back
pub all_at : (f : ℕ → Bool) (n : ℕ) → all_up_to f n ≡ true → (i : ℕ) → i < n → f i ≡ true
unfolding all_up_to
all_at f zero h i l = absurd (not-suc-le-zero l)
all_at f (suc n) h i l =
    ⊎_elim (λ (e : i ≡ n). rw e (both_r (all_up_to f n) (f n) h))
    (λ (k : i < n). all_at f n (both_l (all_up_to f n) (f n) h) i k)
    (eq-or-lt_of_le (le_of_suc-le-suc l))

pub all_from : (f : ℕ → Bool) (n : ℕ) → ((i : ℕ) → i < n → f i ≡ true) → all_up_to f n ≡ true
unfolding all_up_to
all_from f zero h = refl
all_from f (suc n) h = both_i (all_from f n (λ i l. h i (omega arith))) (h n (omega arith))

-- ---- first_from: a turn that goes on, one that stops, and the end
pub first_more : (f : ℕ → Bool) (n i : ℕ) → i < n → f i ≡ false → first_from f i (n - i) ≡ first_from f (i + 1) (n - (i + 1))
unfolding first_from
first_more f n i l h =
    let e : n - i ≡ suc (n - (i + 1)) = omega arith in
    rw e (rw (h, first_from))

pub first_here : (f : ℕ → Bool) (n i : ℕ) → i < n → f i ≡ true → first_from f i (n - i) ≡ i
unfolding first_from
first_here f n i l h =
    let e : n - i ≡ suc (n - (i + 1)) = omega arith in
    rw e (rw (h, first_from))

pub first_none : (f : ℕ → Bool) (n : ℕ) → first_from f n (n - n) ≡ n
unfolding first_from
first_none f n = rw sub_self

-- ---- a loop that tests the numbers below n from 0 up and has passed k of them: what it has found so far, at the start, one
-- turn on, and where it stops
pub record Passed (f : ℕ → Bool) (n k : ℕ) : Type 0 where
  pub within : k ≤ n
  pub all : all_up_to f k ≡ true

pub passed_none : {f : ℕ → Bool} {n : ℕ} → Passed f n 0
passed_none {f} = record { within = zero-le; all = all_none f }

pub passed_more : {f : ℕ → Bool} {n k : ℕ} → Passed f n k → k < n → f k ≡ true → Passed f n (k + 1)
passed_more {f} {n} {k} p l h = record { within = omega arith; all = all_more f k p.all h }

pub passed_stop : {f : ℕ → Bool} {n k : ℕ} → Passed f n k → k < n → f k ≡ false → all_up_to f n ≡ false
passed_stop {f} {n} {k} p l h = all_not f n k l h

pub passed_end : {f : ℕ → Bool} {n k : ℕ} → Passed f n k → n ≤ k → all_up_to f n ≡ true
passed_end {f} {n} {k} p l =
    let e : k ≡ n = omega (arith, p.within) in
    rw e at p.all

-- the same for a search: what is left to search gives the answer
pub record Sought (f : ℕ → Bool) (n k : ℕ) : Type 0 where
  pub within : k ≤ n
  pub left : first_from f k (n - k) ≡ first_from f 0 n

pub sought_none : {f : ℕ → Bool} {n : ℕ} → Sought f n 0
sought_none {f} {n} = record { within = zero-le; left = rw sub-zero }

pub sought_more : {f : ℕ → Bool} {n k : ℕ} → Sought f n k → k < n → f k ≡ false → Sought f n (k + 1)
sought_more {f} {n} {k} p l h = record { within = omega arith; left = sym (first_more f n k l h) ∙ p.left }

pub sought_here : {f : ℕ → Bool} {n k : ℕ} → Sought f n k → k < n → f k ≡ true → k ≡ first_from f 0 n
sought_here {f} {n} {k} p l h = sym (first_here f n k l h) ∙ p.left

pub sought_end : {f : ℕ → Bool} {n k : ℕ} → Sought f n k → n ≤ k → k ≡ first_from f 0 n
sought_end {f} {n} {k} p l =
    let e : k ≡ n = omega (arith, p.within) in
    let z : first_from f n (n - n) ≡ first_from f 0 n = rw e at p.left in
    e ∙ sym (first_none f n) ∙ z
