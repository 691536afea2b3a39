-- Zero bytes: "every byte is zero" against the single bytes and in a row of lists; the loops that test it; zeros written.
use mathlib.Core.Path.{◌≡◌, refl, sym, ap, ◌∙◌}
use mathlib.Core.Bool.{Bool, true, ◌&&◌, and_assoc, and_comm, and-true}
use mathlib.Core.List.{List, [], ◌∷◌, ◌++◌}
use Prim.Native.Nat.{ℕ, zero, suc, max, ◌+◌, ◌*◌, ◌-◌, ◌≤◌, ◌<◌, zero-le}
use native.Mathlib.Numerals.{add-one}
use native.Mathlib.Omega.{arith}
use borrow.Author.Tests.{eq-eqb, ne_eqb, eqb-true, eqb-false}
use lib.Dec.{eqb}
use lib.ListN.{length, get_or, set, take, drop, replicate, length-drop, drop_of_length-le}
use lib.Seq.{drop-cons, drop-length, take_all}
use Rattle.octets.specs.Octets.{put, all_zero}
use Rattle.octets.proofs.Bools.{both_i, both_l, both_r, split}

-- against the single bytes, and as one list
pub zero_at : (xs : List ℕ) → all_zero xs ≡ true → (k : ℕ) → get_or xs k 0 ≡ 0
unfolding all_zero
zero_at [] h k = refl
zero_at (x ∷ xs) h zero = eqb-true x 0 (both_l (eqb x 0) (all_zero xs) h)
zero_at (x ∷ xs) h (suc k) = zero_at xs (both_r (eqb x 0) (all_zero xs) h) k

pub zero_from : (xs : List ℕ) → ((k : ℕ) → k < length xs → get_or xs k 0 ≡ 0) → all_zero xs ≡ true
unfolding all_zero
zero_from [] h = refl
zero_from (x ∷ xs) h = both_i (eq-eqb x 0 (h 0 (omega arith))) (zero_from xs (λ k l. h (suc k) (omega arith)))

pub zero_is : (xs : List ℕ) → all_zero xs ≡ true → xs ≡ replicate (length xs) 0
unfolding all_zero
zero_is [] h = refl
zero_is (x ∷ xs) h =
    let e : x ≡ 0 = eqb-true x 0 (both_l (eqb x 0) (all_zero xs) h) in
    let f : xs ≡ replicate (length xs) 0 = zero_is xs (both_r (eqb x 0) (all_zero xs) h) in
    cc

pub zero_replicate : (n : ℕ) → all_zero (replicate n 0) ≡ true
unfolding all_zero
zero_replicate zero = refl
zero_replicate (suc n) = both_i (eq-eqb 0 0 refl) (zero_replicate n)

-- of two lists in a row
pub zero_append : (xs ys : List ℕ) → all_zero (xs ++ ys) ≡ (all_zero xs && all_zero ys)
unfolding all_zero
zero_append [] ys = refl
zero_append (x ∷ xs) ys = split (eqb x 0) (λ e. rw e (zero_append xs ys)) (λ e. rw e)

-- ---- from the end on, and in the rest that a `&t[p..]` lends
pub zero_none : (t : List ℕ) → all_zero (drop (length t) t) ≡ true
unfolding all_zero
zero_none t = rw drop-length

pub zero_out : (t : List ℕ) (p : ℕ) → length t ≤ p → all_zero (drop p t) ≡ true
unfolding all_zero
zero_out t p h = rw (drop_of_length-le t h)

pub zero_lent : (t : List ℕ) (p : ℕ) → all_zero (take (length t - p) (drop p t)) ≡ all_zero (drop p t)
zero_lent t p = ap all_zero (take_all (length t - p) (drop p t) (simp length-drop (omega arith)))

-- ---- a loop that has tested the bytes before i: at the start, one turn on, and at the end
pub record Gathered (t : List ℕ) (zero : Bool) (i : ℕ) : Type 0 where
  pub within : i ≤ length t
  pub left : (zero && all_zero (drop i t)) ≡ all_zero t

pub gathered_none : {t : List ℕ} → Gathered t true 0
gathered_none = record { within = zero-le; left = refl }

pub gathered_more : {t : List ℕ} {zero : Bool} {i : ℕ} → Gathered t zero i → i < length t → Gathered t (zero && eqb (get_or t i 0) 0) (i + 1)
unfolding all_zero
gathered_more {t} {zero} {i} g l =
    let turn : all_zero (drop i t) ≡ (eqb (get_or t i 0) 0 && all_zero (drop (i + 1) t)) = rw (drop-cons t i 0 l, add-one) in
    record { within = omega arith; left = and_assoc zero (eqb (get_or t i 0) 0) (all_zero (drop (i + 1) t)) ∙ rw (← turn) g.left }

pub gathered_end : {t : List ℕ} {zero : Bool} {i : ℕ} → Gathered t zero i → length t ≤ i → zero ≡ all_zero t
gathered_end {t} {zero} {i} g l =
    let e : i ≡ length t = omega (arith, g.within) in
    let z : all_zero (drop i t) ≡ true = rw e (zero_none t) in
    sym (and-true zero) ∙ rw z at g.left

-- ---- a loop that keeps the greatest of the bytes: the greater of two is zero exactly if both are, a byte kept in place k, one turn on
pub greatest : (x y : ℕ) → eqb (max x y) 0 ≡ (eqb x 0 && eqb y 0)
greatest x y =
    split (eqb x 0)
    (λ e. let z : x ≡ 0 = eqb-true x 0 e in let m : max x y ≡ y = omega arith in rw (e, m))
    (λ e. rw e (ne_eqb (max x y) 0 (λ z. eqb-false x 0 e (omega arith))))

zero_set : (xs : List ℕ) (k v x : ℕ) → k < length xs → eqb v 0 ≡ (eqb (get_or xs k 0) 0 && eqb x 0) → all_zero (set xs k v) ≡ (all_zero xs && eqb x 0)
unfolding all_zero
zero_set [] k v x l e = absurd (omega arith)
zero_set (y ∷ xs) zero v x l e = rw e (split (eqb y 0) (λ z. rw z (and_comm (eqb x 0) (all_zero xs))) (λ z. rw z))
zero_set (y ∷ xs) (suc k) v x l e = rw (zero_set xs k v x (omega arith) e) (sym (and_assoc (eqb y 0) (all_zero xs) (eqb x 0)))

pub kept_more : (t most : List ℕ) (p k v : ℕ) → k < length most → p + k < length t → eqb v 0 ≡ (eqb (get_or most k 0) 0 && eqb (get_or t (p + k) 0) 0)
    → (all_zero (set most k v) && all_zero (drop (p + (k + 1)) t)) ≡ (all_zero most && all_zero (drop (p + k) t))
unfolding all_zero
kept_more t most p k v l m e =
    let q : p + (k + 1) ≡ suc (p + k) = omega arith in
    rw (zero_set most k v (get_or t (p + k) 0) l e, drop-cons t (p + k) 0 m, q) (and_assoc (all_zero most) (eqb (get_or t (p + k) 0) 0) (all_zero (drop (suc (p + k)) t)))

-- nothing gathered yet, two rows of 128 bytes more, and the end
pub kept_none : (t : List ℕ) (p : ℕ) → (all_zero (replicate 128 0) && all_zero (drop (p + 256 * 0) t)) ≡ all_zero (drop p t)
kept_none t p = let q : p + 256 * 0 ≡ p = omega arith in rw (zero_replicate 128, q)

pub kept_two : (t most most' most'' : List ℕ) (p j : ℕ) → length most ≡ 128 → length most' ≡ 128
    → (all_zero most' && all_zero (drop (p + 256 * j + length most) t)) ≡ (all_zero most && all_zero (drop (p + 256 * j) t))
    → (all_zero most'' && all_zero (drop (p + 256 * j + 128 + length most') t)) ≡ (all_zero most' && all_zero (drop (p + 256 * j + 128) t))
    → (all_zero most'' && all_zero (drop (p + 256 * (j + 1)) t)) ≡ (all_zero most && all_zero (drop (p + 256 * j) t))
kept_two t most most' most'' p j a b d e =
    let q : p + 256 * (j + 1) ≡ p + 256 * j + 128 + 128 = omega arith in
    rw q (rw b at e ∙ rw a at d)

pub kept_end : (t most : List ℕ) (p i j n : ℕ) (a b : Bool) → (all_zero most && all_zero (drop (p + 256 * j) t)) ≡ all_zero (drop p t) → j ≤ n → n ≤ j
    → i ≡ p + 256 * n → a ≡ all_zero most → b ≡ all_zero (take (length t - i) (drop i t)) → (a && b) ≡ all_zero (drop p t)
kept_end t most p i j n a b h l m e f g =
    let q : p + 256 * j ≡ i = omega arith in
    rw (f, g, zero_lent t i) (rw q at h)

-- ---- zeros written: a turn of the loop
pub put_zero_more : (n k : ℕ) (t : List ℕ) (p : ℕ) → k < n
    → put (set t (p + k) 0) (p + (k + 1)) (replicate (n - (k + 1)) 0) ≡ put t (p + k) (replicate (n - k) 0)
unfolding put
put_zero_more n k t p h =
    let e : n - k ≡ suc (n - (k + 1)) = omega arith in
    let q : p + (k + 1) ≡ suc (p + k) = omega arith in
    rw (e, q)
