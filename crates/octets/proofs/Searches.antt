-- General laws of the tests over a range of numbers: they depend on the test at those numbers alone; the first number at which a
-- test holds is the one with none before it; a test of all numbers from 1 on holds at each of them.
use mathlib.Core.Path.{◌≡◌, refl, ◌∙◌}
use mathlib.Core.Bool.{Bool, true, false}
use Prim.Native.Nat.{ℕ, zero, suc, ◌+◌, ◌-◌, ◌≤◌, ◌<◌}
use native.Mathlib.Omega.{arith}
use mathlib.Core.Logic.{⊎_elim}
use Rattle.octets.proofs.Places.{below_or}
use Rattle.octets.specs.Tests.{all_up_to, first_from}
use Rattle.octets.proofs.Bools.{split, not_both}
use Rattle.octets.proofs.Ranges.{all_at, all_from}

pub all_ext : (f g : ℕ → Bool) (n : ℕ) → ((k : ℕ) → k < n → f k ≡ g k) → all_up_to f n ≡ all_up_to g n
unfolding all_up_to
all_ext f g zero h = refl
all_ext f g (suc n) h =
    let a : all_up_to f n ≡ all_up_to g n = all_ext f g n (λ k l. h k (omega arith)) in
    let b : f n ≡ g n = h n (omega arith) in
    rw (a, b)

pub first_ext : (f g : ℕ → Bool) (i n : ℕ) → ((k : ℕ) → i ≤ k → k < i + n → f k ≡ g k) → first_from f i n ≡ first_from g i n
unfolding first_from
first_ext f g i zero h = refl
first_ext f g i (suc n) h =
    let a : f i ≡ g i = h i (omega arith) (omega arith) in
    let b : first_from f (i + 1) n ≡ first_from g (i + 1) n = first_ext f g (i + 1) n (λ k l m. h k (omega arith) (omega arith)) in
    split (g i)
    (λ e. let d : f i ≡ true = a ∙ e in rw (d, e, first_from))
    (λ e. let d : f i ≡ false = a ∙ e in rw (d, e, first_from) b)

-- the first number is within the range, or just behind it; none before it passes; it passes, if it is within
pub first_high : (f : ℕ → Bool) (i n : ℕ) → first_from f i n ≤ i + n
unfolding first_from
first_high f i zero = omega arith
first_high f i (suc n) =
    split (f i) (λ e. rw (e, first_from) (omega arith)) (λ e. rw (e, first_from) (omega (arith, first_high f (i + 1) n)))

pub first_low : (f : ℕ → Bool) (i n : ℕ) → i ≤ first_from f i n
unfolding first_from
first_low f i zero = omega arith
first_low f i (suc n) =
    split (f i) (λ e. rw (e, first_from) (omega arith)) (λ e. rw (e, first_from) (omega (arith, first_low f (i + 1) n)))

pub first_before : (f : ℕ → Bool) (i n k : ℕ) → i ≤ k → k < first_from f i n → f k ≡ false
unfolding first_from
first_before f i zero k l h = absurd (omega arith)
first_before f i (suc n) k l h =
    split (f i)
    (λ e. absurd (let z : k < i = rw (e, first_from) at h in omega arith))
    (λ e.
    let z : k < first_from f (i + 1) n = rw (e, first_from) at h in
    ⊎_elim (λ (m : i < k). first_before f (i + 1) n k (omega arith) z)
    (λ (m : k ≤ i). let q : k ≡ i = omega arith in rw q e) (below_or i k))

pub first_holds : (f : ℕ → Bool) (i n : ℕ) → first_from f i n < i + n → f (first_from f i n) ≡ true
unfolding first_from
first_holds f i zero h = absurd (omega arith)
first_holds f i (suc n) h =
    split (f i) (λ e. rw (e, first_from) e)
    (λ e.
    let z : first_from f (i + 1) n < i + suc n = rw (e, first_from) at h in
    rw (e, first_from) (first_holds f (i + 1) n (omega arith)))

-- a number with none before it that passes, and that passes itself if it is within the range, is the first
pub first_is : (f : ℕ → Bool) (n k : ℕ) → k ≤ n → ((j : ℕ) → j < k → f j ≡ false) → (k < n → f k ≡ true) → first_from f 0 n ≡ k
first_is f n k l before here =
    let r : ℕ = first_from f 0 n in
    ⊎_elim
    (λ (m : r < k). absurd (not_both (first_holds f 0 n (omega arith)) (before r m)))
    (λ (m : k ≤ r).
    ⊎_elim
    (λ (q : k < r). absurd (not_both (here (omega (arith, first_high f 0 n))) (first_before f 0 n k (omega arith) q)))
    (λ (q : r ≤ k). omega arith)
    (below_or k r))
    (below_or r k)

-- ---- all numbers from 1 to n

pub upto_at : (f : ℕ → Bool) (n : ℕ) → all_up_to (λ k. f (suc k)) n ≡ true → (k : ℕ) → 1 ≤ k → k ≤ n → f k ≡ true
upto_at f n h zero l m = absurd (omega arith)
upto_at f n h (suc k) l m = all_at (λ j. f (suc j)) n h k m

pub upto_from : (f : ℕ → Bool) (n : ℕ) → ((k : ℕ) → 1 ≤ k → k ≤ n → f k ≡ true) → all_up_to (λ k. f (suc k)) n ≡ true
upto_from f n h = all_from (λ j. f (suc j)) n (λ k l. h (suc k) (omega arith) l)

-- the same where the numbers are written k + 1
pub record_at_lem : (f : ℕ → Bool) (n : ℕ) → all_up_to (λ k. f (k + 1)) n ≡ true → (i : ℕ) → 1 ≤ i → i ≤ n → f i ≡ true
record_at_lem f n h i l m =
    let e : i - 1 + 1 ≡ i = omega arith in
    rw e at (all_at (λ k. f (k + 1)) n h (i - 1) (omega arith))

pub record_from : (f : ℕ → Bool) (n : ℕ) → ((i : ℕ) → 1 ≤ i → i ≤ n → f i ≡ true) → all_up_to (λ k. f (k + 1)) n ≡ true
record_from f n h = all_from (λ k. f (k + 1)) n (λ k l. h (k + 1) (omega arith) (omega arith))
