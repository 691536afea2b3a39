-- Orders by number: what `put` leaves at each number, lengths, open orders are orders of the book; sums over the first orders.
use mathlib.Core.Path.{◌≡◌, refl, ap}
use mathlib.Core.Bool.{Bool, true, false, cond}
use mathlib.Core.List.{[], ◌∷◌, ◌++◌}
use mathlib.Core.Logic.{◌≢◌}
use Prim.Native.Nat.{ℕ, zero, suc, ◌+◌, ◌*◌, ◌≤◌, ◌<◌}
use native.Mathlib.Omega.{arith}
use lib.ListN.{length, get_or, set, length-set, length-append, get_or-eq_default}
use lib.Seq.{get_or-set_same, get_or-set_other}
use lib.Dec.{ltb, eqb}
use borrow.Author.Tests.{ltb-true, ltb-false, eqb-true, eqb-false, lt-ltb, le-ltb}
use Rattle.octets.proofs.Bools.{split}
use Rattle.matching.specs.declared.Order.{Order}
use Rattle.matching.specs.Matching.{Book, none, at, put, open_of, sum_over, count_of}
use Rattle.matching.specs.Held.{In}

-- ---- put

-- within the book it replaces
pub put_set : (b : Book) (k : ℕ) (o : Order) → k < length b → put b (suc k) o ≡ set b k o
put_set b k o h = rw (lt-ltb k (length b) h)

-- behind the last one it adds
pub put_new : (b : Book) (o : Order) → put b (suc (length b)) o ≡ b ++ o ∷ []
put_new b o = rw (le-ltb (length b) (length b) (omega arith))

pub at_put_same : (b : Book) (k : ℕ) (o : Order) → 0 < k → k ≤ suc (length b) → at (put b k o) k ≡ o
at_put_same b zero o p h = absurd (omega arith)
at_put_same b (suc k) o p h =
    split (ltb k (length b))
    (λ t. rw t (get_or-set_same b k o none (ltb-true _ _ t)))
    (λ t.
    let e : k ≡ length b = omega (arith, ltb-false) in
    rw t (rw e (last b)))
  where
    last : (b : Book) → get_or (b ++ o ∷ []) (length b) none ≡ o
    last [] = refl
    last (x ∷ b) = last b

pub at_put_other : (b : Book) (k j : ℕ) (o : Order) → k ≤ suc (length b) → j ≢ k → at (put b k o) j ≡ at b j
at_put_other b zero j o h n = refl
at_put_other b (suc k) zero o h n = refl
at_put_other b (suc k) (suc j) o h n =
    split (ltb k (length b))
    (λ t. rw t (get_or-set_other b k j o none (omega arith)))
    (λ t. rw t (past b j (λ e. n (omega (arith, ltb-false k (length b) t)))))
  where
    past : (b : Book) (j : ℕ) → j ≢ length b → get_or (b ++ o ∷ []) j none ≡ get_or b j none
    past [] zero n = absurd (n refl)
    past [] (suc j) n = refl
    past (x ∷ b) zero n = refl
    past (x ∷ b) (suc j) n = past b j (λ e. n (ap suc e))

pub length_put : (b : Book) (k : ℕ) (o : Order) → k ≤ length b → length (put b k o) ≡ length b
length_put b zero o h = refl
length_put b (suc k) o h = rw (lt-ltb k (length b) h) (length-set b k o)

pub length_put_new : (b : Book) (o : Order) → length (put b (suc (length b)) o) ≡ suc (length b)
length_put_new b o = rw (le-ltb (length b) (length b) (omega arith)) (omega (arith, length-append b (o ∷ [])))

-- ---- an order with something open is in the book
pub open_low : (b : Book) (k : ℕ) → 0 < open_of (at b k) → 0 < k
unfolding open_of
open_low b zero h = absurd (omega arith)
open_low b (suc k) h = omega arith

pub open_high : (b : Book) (k : ℕ) → 0 < open_of (at b k) → k ≤ length b
unfolding open_of
open_high b zero h = omega arith
open_high b (suc k) h =
    split (ltb k (length b))
    (λ t. omega (arith, ltb-true))
    (λ t. let z : get_or b k none ≡ none = get_or-eq_default b none (ltb-false _ _ t) in absurd (let y = rw z at h in omega arith))

pub open_in : (b : Book) (k : ℕ) → 0 < open_of (at b k) → In b k
open_in b k h = record { low = open_low b k h; high = open_high b k h }

-- the number behind the last one is no order's yet
pub at_new : (b : Book) → at b (suc (length b)) ≡ none
at_new b = get_or-eq_default b none (omega arith)

-- an empty book has nothing open
pub at_nothing : (k : ℕ) → open_of (at [] k) ≡ 0
unfolding open_of
at_nothing zero = refl
at_nothing (suc k) = refl

-- ---- sums over the first orders

-- term by term the same, or at most
pub sum_same : (f g : Order → ℕ) (b c : Book) (n : ℕ) → ((k : ℕ) → 0 < k → k ≤ n → f (at b k) ≡ g (at c k)) → sum_over f b n ≡ sum_over g c n
unfolding sum_over
sum_same f g b c zero h = refl
sum_same f g b c (suc n) h = omega (arith, sum_same f g b c n (λ k l m. h k l (omega arith)), h (suc n) (omega arith) (omega arith))

pub sum_le : (f g : Order → ℕ) (b c : Book) (n : ℕ) → ((k : ℕ) → 0 < k → k ≤ n → f (at b k) ≤ g (at c k)) → sum_over f b n ≤ sum_over g c n
unfolding sum_over
sum_le f g b c zero h = omega arith
sum_le f g b c (suc n) h = omega (arith, sum_le f g b c n (λ k l m. h k l (omega arith)), h (suc n) (omega arith) (omega arith))

-- and less where one term is
pub sum_lt : (f g : Order → ℕ) (b c : Book) (n r : ℕ) → ((k : ℕ) → 0 < k → k ≤ n → f (at b k) ≤ g (at c k))
    → 0 < r → r ≤ n → f (at b r) < g (at c r) → sum_over f b n < sum_over g c n
unfolding sum_over
sum_lt f g b c zero r h l m s = absurd (omega arith)
sum_lt f g b c (suc n) r h l m s =
    split (eqb r (suc n))
    (λ t.
    let q = eqb-true r (suc n) t in
    omega (arith, sum_le f g b c n (λ k l m. h k l (omega arith)), rw q at s))
    (λ t. omega (arith, sum_lt f g b c n r (λ k l m. h k l (omega arith)) l (omega (arith, eqb-false)) s, h (suc n) (omega arith) (omega arith)))

-- of a sum of two
pub sum_add : (f g : Order → ℕ) (b : Book) (n : ℕ) → sum_over (λ o. f o + g o) b n ≡ sum_over f b n + sum_over g b n
unfolding sum_over
sum_add f g b zero = refl
sum_add f g b (suc n) = omega (arith, sum_add f g b n)

-- each at most m
pub sum_most : (f : Order → ℕ) (b : Book) (n m : ℕ) → ((k : ℕ) → 0 < k → k ≤ n → f (at b k) ≤ m) → sum_over f b n ≤ n * m
unfolding sum_over
sum_most f b zero m h = omega arith
sum_most f b (suc n) m h = omega (arith, sum_most f b n m (λ k l u. h k l (omega arith)), h (suc n) (omega arith) (omega arith))

-- ---- the same of numbers of orders
one_le : (f g : Order → Bool) (o p : Order) → (f o ≡ true → g p ≡ true) → cond (f o) 1 0 ≤ cond (g p) 1 0
one_le f g o p h = split (f o) (λ t. rw (t, h t) (omega arith)) (λ t. rw t (omega arith))

module _ (f g : Order → Bool) (b c : Book) (n : ℕ) (sub : (k : ℕ) → f (at b k) ≡ true → g (at c k) ≡ true) where
  pub count_le : count_of f b n ≤ count_of g c n
  unfolding count_of
  count_le = sum_le _ _ b c n (λ k l m. one_le f g (at b k) (at c k) (sub k))

  pub count_lt : (r : ℕ) → 0 < r → r ≤ n → f (at b r) ≡ false → g (at c r) ≡ true → count_of f b n < count_of g c n
  unfolding count_of
  count_lt r l h x y = sum_lt _ _ b c n r (λ k l m. one_le f g (at b k) (at c k) (sub k)) l h (rw (x, y) (omega arith))

-- at most all of them
pub count_most : (f : Order → Bool) (b : Book) (n : ℕ) → count_of f b n ≤ n
unfolding count_of
count_most f b n = omega (arith, sum_most (λ o. cond (f o) 1 0) b n 1 (λ k l m. split (f (at b k)) (λ t. rw t (omega arith)) (λ t. rw t (omega arith))))

-- all of them exactly if the test holds of each
pub count_all : (f : Order → Bool) (b : Book) (n : ℕ) → ((k : ℕ) → 0 < k → k ≤ n → f (at b k) ≡ true) → count_of f b n ≡ n
unfolding count_of sum_over
count_all f b zero h = refl
count_all f b (suc n) h = rw (h (suc n) (omega arith) (omega arith)) (omega (arith, count_all f b n (λ k l m. h k l (omega arith))))

pub count_each : (f : Order → Bool) (b : Book) (n : ℕ) → count_of f b n ≡ n → (k : ℕ) → 0 < k → k ≤ n → f (at b k) ≡ true
unfolding count_of sum_over
count_each f b zero e k l h = absurd (omega arith)
count_each f b (suc n) e k l h =
    split (f (at b (suc n)))
    (λ t.
    let x : sum_over (λ o. cond (f o) 1 0) b n + 1 ≡ suc n = rw t at e in
    split (eqb k (suc n))
    (λ z. rw (eqb-true k (suc n) z) t)
    (λ z. count_each f b n (omega arith) k l (omega (arith, eqb-false k (suc n) z))))
    (λ t. absurd (let x : sum_over (λ o. cond (f o) 1 0) b n + 0 ≡ suc n = rw t at e in omega (arith, count_most f b n)))
