-- Parts of a list of bytes, texts in it, and lists of bytes compared: what a part holds, what a `put` beside it or over it
-- leaves of it, a text read back where it was put, and the test of sameness against equality.
use mathlib.Core.Path.{◌≡◌, refl, sym, ap, ◌∙◌}
use mathlib.Core.Bool.{true, false}
use mathlib.Core.List.{List, [], ◌∷◌, ◌++◌}
use Prim.Native.Nat.{ℕ, suc, ◌+◌, ◌-◌, ◌≤◌, ◌<◌}
use native.Mathlib.Nat.{add-zero, add_assoc}
use native.Mathlib.Numerals.{add-one}
use native.Mathlib.Omega.{arith}
use borrow.Author.Tests.{eq-eqb, ne_eqb, eqb-true}
use lib.Dec.{eqb}
use lib.ListN.{length, get_or, set, take, drop, replicate, length-drop, length-append, length-replicate, drop_of_length-le}
use lib.Seq.{get_or-take, get_or-drop, length-take-le, take_all, take-nil, take-append_seam, drop-append_seam, drop-cons, drop-length, ext_get_or}
use Rattle.std.specs.Cmp.Lexicographic.{pointwise}
use Rattle.octets.specs.Octets.{put, part_at, text_at, text_bytes, put_text, same_bytes}
use Rattle.octets.proofs.Bools.{both_i, both_l, both_r, split, not_both}
use Rattle.octets.proofs.Places.{length_put, get_d_put_below, get_d_put_above, get_d_put_in, put_put, put_cons}

-- ---- part_at: as the language lends it; past the end; its length and its bytes
pub part_none : (t : List ℕ) (p n : ℕ) → length t ≤ p → part_at t p n ≡ []
unfolding part_at
part_none t p n h = rw (drop_of_length-le t h) (take-nil n)

pub part_rest : (t : List ℕ) (p n : ℕ) → length t ≤ p + n → part_at t p n ≡ drop p t
unfolding part_at
part_rest t p n h = take_all n (drop p t) (simp length-drop (omega arith))

pub length_part : (t : List ℕ) (p n : ℕ) → p + n ≤ length t → length (part_at t p n) ≡ n
unfolding part_at
length_part t p n h = length-take-le n (drop p t) (simp length-drop (omega arith))

pub get_d_part : (t : List ℕ) (p n k : ℕ) → k < n → get_or (part_at t p n) k 0 ≡ get_or t (p + k) 0
unfolding part_at
get_d_part t p n k h = get_or-take n (drop p t) k 0 h ∙ get_or-drop p t k 0

-- the three ways in which a part is lent: nothing, all the rest, or n bytes
pub lent_none : (t : List ℕ) (p n : ℕ) → length t ≤ p → take (length t - length t) (drop (length t) t) ≡ part_at t p n
lent_none t p n h = rw (drop-length t) (take-nil (length t - length t) ∙ sym (part_none t p n h))

pub lent_rest : (t : List ℕ) (p n : ℕ) → length t - p ≤ n → take (length t - p) (drop p t) ≡ part_at t p n
lent_rest t p n h = take_all (length t - p) (drop p t) (simp length-drop (omega arith)) ∙ sym (part_rest t p n (omega arith))

pub lent_part : (t : List ℕ) (p n : ℕ) → take (p + n - p) (drop p t) ≡ part_at t p n
unfolding part_at
lent_part t p n =
    let e : p + n - p ≡ n = omega arith in
    rw e

-- a part is its bytes
pub part_ext : (t u : List ℕ) (p q n : ℕ) → p + n ≤ length t → q + n ≤ length u
    → ((k : ℕ) → k < n → get_or t (p + k) 0 ≡ get_or u (q + k) 0) → part_at t p n ≡ part_at u q n
part_ext t u p q n h l same =
    ext_get_or 0 (part_at t p n) (part_at u q n) (length_part t p n h ∙ sym (length_part u q n l)) (λ k i.
    let b : k < n = omega (arith, length_part t p n h) in
    get_d_part t p n k b ∙ same k b ∙ sym (get_d_part u q n k b))

-- beside a run that was put, before it and after it, and within it
pub part_below : (t : List ℕ) (q : ℕ) (vs : List ℕ) (p n : ℕ) → p + n ≤ length t → p + n ≤ q → part_at (put t q vs) p n ≡ part_at t p n
part_below t q vs p n h l =
    part_ext (put t q vs) t p p n (rw length_put h) h (λ k b. get_d_put_below t q vs (p + k) (omega arith))

pub part_above : (t : List ℕ) (q : ℕ) (vs : List ℕ) (p n : ℕ) → p + n ≤ length t → q + length vs ≤ p → part_at (put t q vs) p n ≡ part_at t p n
part_above t q vs p n h l =
    part_ext (put t q vs) t p p n (rw length_put h) h (λ k b. get_d_put_above t q vs (p + k) (omega arith))

pub part_in_lem : (t : List ℕ) (q : ℕ) (vs : List ℕ) (k n : ℕ) → k + n ≤ length vs → q + length vs ≤ length t → part_at (put t q vs) (q + k) n ≡ part_at vs k n
part_in_lem t q vs k n h l =
    part_ext (put t q vs) vs (q + k) k n (rw length_put (omega arith)) h (λ j b.
    ap (λ (i : ℕ). get_or (put t q vs) i 0) (add_assoc q k j) ∙ get_d_put_in t q vs (k + j) (omega arith) l)

-- ---- text_at: past the end; its length and its bytes, where the room for n characters lies within the list
pub text_none : (t : List ℕ) (p : ℕ) → length t ≤ p → text_at t p ≡ []
unfolding text_at
text_none t p h = part_none t (p + 1) (get_or t p 0) (omega arith)

pub text_part : (t : List ℕ) (p : ℕ) → part_at t (p + 1) (get_or t p 0) ≡ text_at t p
unfolding text_at
text_part t p = refl

pub no_text_lem : (t : List ℕ) (p : ℕ) → length t ≤ p → part_at t p 0 ≡ text_at t p
no_text_lem t p h = part_none t p 0 h ∙ sym (text_none t p h)

pub length_text : (t : List ℕ) (p n : ℕ) → p + 1 + n ≤ length t → get_or t p 0 ≤ n → length (text_at t p) ≡ get_or t p 0
unfolding text_at
length_text t p n h l = length_part t (p + 1) (get_or t p 0) (omega arith)

pub get_d_text : (t : List ℕ) (p k : ℕ) → k < get_or t p 0 → get_or (text_at t p) k 0 ≡ get_or t (p + 1 + k) 0
unfolding text_at
get_d_text t p k h = get_d_part t (p + 1) (get_or t p 0) k h

-- a text is its length byte and the bytes of its room
pub text_ext : (t u : List ℕ) (p q n : ℕ) → p + 1 + n ≤ length t → q + 1 + n ≤ length u → get_or t p 0 ≤ n
    → ((k : ℕ) → k < suc n → get_or t (p + k) 0 ≡ get_or u (q + k) 0) → text_at t p ≡ text_at u q
unfolding text_at
text_ext t u p q n h l short same =
    let first : get_or t p 0 ≡ get_or u q 0 = simp add-zero at (same 0 (omega arith)) in
    rw first (part_ext t u (p + 1) (q + 1) (get_or u q 0) (omega arith) (omega arith) (λ k b.
    let e : p + 1 + k ≡ p + suc k = omega arith in
    let f : q + 1 + k ≡ q + suc k = omega arith in
    ap (λ (j : ℕ). get_or t j 0) e ∙ same (suc k) (omega arith) ∙ ap (λ (j : ℕ). get_or u j 0) (sym f)))

-- a text, with room for n characters, beside a run that was put, before it and after it, and within it
pub text_below : (t : List ℕ) (q : ℕ) (vs : List ℕ) (p n : ℕ) → p + 1 + n ≤ length t → get_or t p 0 ≤ n → p + 1 + n ≤ q → text_at (put t q vs) p ≡ text_at t p
text_below t q vs p n h short l =
    sym (text_ext t (put t q vs) p p n h (rw length_put h) short (λ k b. sym (get_d_put_below t q vs (p + k) (omega arith))))

pub text_above : (t : List ℕ) (q : ℕ) (vs : List ℕ) (p n : ℕ) → p + 1 + n ≤ length t → get_or t p 0 ≤ n → q + length vs ≤ p → text_at (put t q vs) p ≡ text_at t p
text_above t q vs p n h short l =
    sym (text_ext t (put t q vs) p p n h (rw length_put h) short (λ k b. sym (get_d_put_above t q vs (p + k) (omega arith))))

pub text_in_lem : (t : List ℕ) (q : ℕ) (vs : List ℕ) (k n : ℕ) → k + 1 + n ≤ length vs → get_or vs k 0 ≤ n → q + length vs ≤ length t
    → text_at (put t q vs) (q + k) ≡ text_at vs k
text_in_lem t q vs k n h short l =
    sym (text_ext vs (put t q vs) k (q + k) n h (rw length_put (omega arith)) short (λ j b.
    sym (ap (λ (i : ℕ). get_or (put t q vs) i 0) (add_assoc q k j) ∙ get_d_put_in t q vs (k + j) (omega arith) l)))

-- ---- text_bytes and put_text: the length, the text read back, the zeros behind it
pub length_text_bytes : (n : ℕ) (xs : List ℕ) → length xs ≤ n → length (text_bytes n xs) ≡ suc n
unfolding text_bytes
length_text_bytes n xs h = simp (length-append, length-replicate) (omega arith)

pub text_text_bytes : (n : ℕ) (xs : List ℕ) → text_at (text_bytes n xs) 0 ≡ xs
unfolding text_at part_at text_bytes
text_text_bytes n xs = take-append_seam xs (replicate (n - length xs) 0)

first_text_bytes : (n : ℕ) (xs : List ℕ) → get_or (text_bytes n xs) 0 0 ≡ length xs
unfolding text_bytes
first_text_bytes n xs = refl

padding_text_bytes : (n : ℕ) (xs : List ℕ) → part_at (text_bytes n xs) (1 + length xs) (n - length xs) ≡ replicate (n - length xs) 0
unfolding part_at text_bytes
padding_text_bytes n xs =
    let z : List ℕ = replicate (n - length xs) 0 in
    let e : drop (1 + length xs) (length xs ∷ (xs ++ z)) ≡ z = rw (one_add (length xs)) (drop-append_seam xs z) in
    rw e (take_all (n - length xs) z (simp length-replicate (omega arith)))
  where
    one_add : (m : ℕ) → 1 + m ≡ suc m
    one_add m = omega arith

module _ (n : ℕ) (t : List ℕ) (p : ℕ) (xs : List ℕ) (room : p + 1 + n ≤ length t) (short : length xs ≤ n) where
  pub text_put : text_at (put_text n t p xs) p ≡ xs
  text_put =
      let long : length (text_bytes n xs) ≡ suc n = length_text_bytes n xs short in
      let first : get_or (text_bytes n xs) 0 0 ≤ n = rw (first_text_bytes n xs) short in
      ap (λ (q : ℕ). text_at (put_text n t p xs) q) (sym (add-zero p))
      ∙ text_in_lem t p (text_bytes n xs) 0 n (omega arith) first (omega arith)
      ∙ text_text_bytes n xs

  pub text_put_first : get_or (put_text n t p xs) p 0 ≡ length xs
  text_put_first =
      let long : length (text_bytes n xs) ≡ suc n = length_text_bytes n xs short in
      ap (λ (q : ℕ). get_or (put_text n t p xs) q 0) (sym (add-zero p))
      ∙ get_d_put_in t p (text_bytes n xs) 0 (omega arith) (omega arith)
      ∙ first_text_bytes n xs

  pub text_put_padding : part_at (put_text n t p xs) (p + 1 + length xs) (n - length xs) ≡ replicate (n - length xs) 0
  text_put_padding =
      let long : length (text_bytes n xs) ≡ suc n = length_text_bytes n xs short in
      ap (λ (q : ℕ). part_at (put_text n t p xs) q (n - length xs)) (add_assoc p 1 (length xs))
      ∙ part_in_lem t p (text_bytes n xs) (1 + length xs) (n - length xs) (omega arith) (omega arith)
      ∙ padding_text_bytes n xs

-- the length byte stored, then the bytes, then the zeros, is the text put
pub put_three : (n : ℕ) (t : List ℕ) (p : ℕ) (xs : List ℕ)
    → put (put (set t p (length xs)) (p + 1) xs) (p + 1 + length xs) (replicate (n - length xs) 0) ≡ put_text n t p xs
unfolding text_bytes
put_three n t p xs = put_put (set t p (length xs)) (p + 1) xs (replicate (n - length xs) 0) ∙ put_cons t p (length xs) (xs ++ replicate (n - length xs) 0)

-- ---- same_bytes: against equality
pub same_is : (xs ys : List ℕ) → same_bytes xs ys ≡ true → xs ≡ ys
unfolding same_bytes
same_is [] [] h = refl
same_is [] (y ∷ ys) h = absurd (not_both h refl)
same_is (x ∷ xs) [] h = absurd (not_both h refl)
same_is (x ∷ xs) (y ∷ ys) h =
    let e : x ≡ y = eqb-true x y (both_l (eqb x y) (same_bytes xs ys) h) in
    let f : xs ≡ ys = same_is xs ys (both_r (eqb x y) (same_bytes xs ys) h) in
    cc

pub is_same : (xs : List ℕ) → same_bytes xs xs ≡ true
unfolding same_bytes
is_same [] = refl
is_same (x ∷ xs) = both_i (eq-eqb x x refl) (is_same xs)

pub not_same : (xs ys : List ℕ) → (xs ≡ ys → ⊥) → same_bytes xs ys ≡ false
not_same xs ys h = split (same_bytes xs ys) (λ e. absurd (h (same_is xs ys e))) (λ e. e)

pub same_not : (xs ys : List ℕ) → same_bytes xs ys ≡ false → xs ≡ ys → ⊥
same_not xs ys h e = not_both (rw e (is_same ys)) h

-- a turn of a comparing loop that goes on, one that stops, and the end
pub same_more : (a b : List ℕ) (i : ℕ) → i < length a → i < length b → get_or a i 0 ≡ get_or b i 0
    → same_bytes (drop i a) (drop i b) ≡ same_bytes (drop (i + 1) a) (drop (i + 1) b)
unfolding same_bytes
same_more a b i h l e = rw (drop-cons a i 0 h, drop-cons b i 0 l, eq-eqb (get_or a i 0) (get_or b i 0) e, add-one)

pub same_stop : (a b : List ℕ) (i : ℕ) → i < length a → i < length b → (get_or a i 0 ≡ get_or b i 0 → ⊥) → same_bytes (drop i a) (drop i b) ≡ false
unfolding same_bytes
same_stop a b i h l n = rw (drop-cons a i 0 h, drop-cons b i 0 l, ne_eqb (get_or a i 0) (get_or b i 0) n)

pub same_end : (a b : List ℕ) (i : ℕ) → i ≡ length a → i ≡ length b → same_bytes (drop i a) (drop i b) ≡ true
unfolding same_bytes
same_end a b i e f =
    let x : drop i a ≡ [] = rw e (drop-length a) in
    let y : drop i b ≡ [] = rw f (drop-length b) in
    rw (x, y)

-- as `==` of slices compares them
pub same_equal : (xs ys : List ℕ) → pointwise eqb xs ys ≡ same_bytes xs ys
unfolding same_bytes
same_equal [] [] = refl
same_equal [] (y ∷ ys) = refl
same_equal (x ∷ xs) [] = refl
same_equal (x ∷ xs) (y ∷ ys) = rw (same_equal xs ys)
