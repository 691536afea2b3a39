-- Sums over a range of numbers, taken apart and put together; and the weight of a list: as such a sum, of two lists in a row, with one
-- byte changed, of zeros, and how much it can be.
use mathlib.Core.Path.{◌≡◌, refl, sym, ap, ◌∙◌}
use mathlib.Core.List.{List, [], ◌∷◌, ◌++◌}
use Prim.Native.Nat.{ℕ, zero, suc, ◌+◌, ◌*◌, ◌≤◌, ◌<◌}
use native.Mathlib.Nat.{add-zero, add-suc, mul-suc, mul-le-mul_left, not-suc-le-zero}
use native.Mathlib.Numerals.{add-one}
use native.Mathlib.Omega.{arith}
use lib.ListN.{length, get_or, set, replicate}
use Rattle.image.specs.Image.{weighed}
use Rattle.image.specs.Columns.{sum_to}

-- ---- sum_to
pub sum_none : (f : ℕ → ℕ) → sum_to f 0 ≡ 0
unfolding sum_to
sum_none f = refl

pub sum_zero : (n : ℕ) → sum_to (λ k. 0) n ≡ 0
unfolding sum_to
sum_zero zero = refl
sum_zero (suc n) = rw (sum_zero n)

pub sum_more : (f : ℕ → ℕ) (n : ℕ) → sum_to f (n + 1) ≡ sum_to f n + f n
unfolding sum_to
sum_more f n = rw add-one

pub sum_ext : (f g : ℕ → ℕ) (n : ℕ) → ((k : ℕ) → k < n → f k ≡ g k) → sum_to f n ≡ sum_to g n
unfolding sum_to
sum_ext f g zero h = refl
sum_ext f g (suc n) h =
    let a : sum_to f n ≡ sum_to g n = sum_ext f g n (λ k l. h k (omega arith)) in
    let b : f n ≡ g n = h n (omega arith) in
    rw (a, b)

pub sum_plus : (f g : ℕ → ℕ) (n : ℕ) → sum_to (λ k. f k + g k) n ≡ sum_to f n + sum_to g n
unfolding sum_to
sum_plus f g zero = refl
sum_plus f g (suc n) = rw (sum_plus f g n) (omega arith)

pub sum_32 : (f : ℕ → ℕ) (n : ℕ) → sum_to (λ k. 32 * f k) n ≡ 32 * sum_to f n
unfolding sum_to
sum_32 f zero = refl
sum_32 f (suc n) = rw (sum_32 f n) (omega arith)

pub sum_shift : (f : ℕ → ℕ) (m n : ℕ) → sum_to f (m + n) ≡ sum_to f m + sum_to (λ k. f (m + k)) n
unfolding sum_to
sum_shift f m zero = rw add-zero (sym (add-zero _))
sum_shift f m (suc n) = rw (add-suc m n, sum_shift f m n) (omega arith)

-- ---- weighed
pub weighed_sum : (i : ℕ) (xs : List ℕ) → weighed i xs ≡ sum_to (λ k. (i + k) * get_or xs k 0) (length xs)
unfolding weighed sum_to
weighed_sum i [] = refl
weighed_sum i (x ∷ xs) =
    let f : ℕ → ℕ = λ k. (i + k) * get_or (x ∷ xs) k 0 in
    let here : i * x ≡ sum_to f 1 = rw (add-zero i) (omega arith) in
    let rest : weighed (i + 1) xs ≡ sum_to (λ k. f (1 + k)) (length xs) =
    weighed_sum (i + 1) xs
    ∙ sum_ext (λ k. (i + 1 + k) * get_or xs k 0) (λ k. f (1 + k)) (length xs) (λ k l. next k) in
    ap (λ (y : ℕ). i * x + y) rest ∙ ap (λ (y : ℕ). y + sum_to (λ k. f (1 + k)) (length xs)) here
    ∙ sym (sum_shift f 1 (length xs)) ∙ ap (sum_to f) (one_more_lem (length xs))
  where
    one_more_lem : (n : ℕ) → 1 + n ≡ suc n
    one_more_lem n = omega arith

    next : (k : ℕ) → (i + 1 + k) * get_or xs k 0 ≡ (i + (1 + k)) * get_or (x ∷ xs) (1 + k) 0
    next k =
        let e : i + (1 + k) ≡ i + 1 + k = omega arith in
        rw (e, one_more_lem k)

pub weighed_append : (i : ℕ) (xs ys : List ℕ) → weighed i (xs ++ ys) ≡ weighed i xs + weighed (i + length xs) ys
unfolding weighed
weighed_append i [] ys = rw (add-zero i) (omega arith)
weighed_append i (x ∷ xs) ys =
    let e : i + 1 + length xs ≡ i + suc (length xs) = omega arith in
    rw (weighed_append (i + 1) xs ys, e) (omega arith)

-- one byte changed: what it weighed goes, and what it weighs comes
pub weighed_set : (i : ℕ) (xs : List ℕ) (j v : ℕ) → j < length xs → weighed i (set xs j v) + (i + j) * get_or xs j 0 ≡ weighed i xs + (i + j) * v
unfolding weighed
weighed_set i [] j v l = absurd (not-suc-le-zero l)
weighed_set i (x ∷ xs) zero v l = rw add-zero (omega arith)
weighed_set i (x ∷ xs) (suc j) v l =
    let e : i + suc j ≡ i + 1 + j = omega arith in
    rw e (omega (arith, weighed_set (i + 1) xs j v (omega arith)))

pub weighed_zeros : (i n : ℕ) → weighed i (replicate n 0) ≡ 0
unfolding weighed
weighed_zeros i zero = refl
weighed_zeros i (suc n) = rw (weighed_zeros (i + 1) n) (omega arith)

-- n bytes at positions of at most m weigh at most 255 m each
pub weighed_most : (m i : ℕ) (xs : List ℕ) → i + length xs ≤ m + 1 → ((k : ℕ) → get_or xs k 0 < 256) → weighed i xs ≤ 255 * m * length xs
unfolding weighed
weighed_most m i [] h b = omega arith
weighed_most m i (x ∷ xs) h b =
    let small : x < 256 = b 0 in
    let this : i * x ≤ i * 255 = mul-le-mul_left i (omega arith) in
    let rest : weighed (i + 1) xs ≤ 255 * m * length xs = weighed_most m (i + 1) xs (omega arith) (λ k. b (suc k)) in
    let more : 255 * m * suc (length xs) ≡ 255 * m * length xs + 255 * m = mul-suc (255 * m) (length xs) in
    omega arith
