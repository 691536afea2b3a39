-- Numbers and runs of bytes at places: what was put is read back, places apart do not disturb each other, lengths stay,
-- putting what stands there changes nothing. One set of laws, over the width and the place, in the order of the definitions.
use mathlib.Core.Path.{◌≡◌, refl, sym, ap, ◌∙◌}
use mathlib.Core.List.{List, [], ◌∷◌, ◌++◌, append-nil, append_assoc}
use mathlib.Core.Logic.{◌⊎◌, inl, inr}
use Prim.Native.Nat.{ℕ, zero, suc, ◌+◌, ◌*◌, ◌/◌, ◌%◌, ◌^◌, ◌-◌, ◌≤◌, ◌<◌}
use native.Mathlib.Decide.{dec_lt}
use native.Mathlib.Nat.{add-zero, add-suc, zero-add, suc-add, sub_self, pow-le-pow_right, mod-add-div, pow-suc, add_assoc, not-suc-le-zero, div-lt_iff_lt-mul}
use native.Mathlib.Numerals.{add-one}
use native.Mathlib.Omega.{arith}
use lib.Dec.{lit<}
use lib.ListN.{length, get_or, set, take, drop, length-set, length-drop, drop_of_length-le, take-append-drop}
use lib.Seq.{sets, length-sets, get_or-set_same, get_or-set_other, set-get_or, get_or-drop, get_or-take, take_all, set_comm, length-take-le}
use borrow.Rule.Slice.PartMut.{put_mid}
use Rattle.std.proofs.lemmas.List.{drop-drop}
use Rattle.std.proofs.lemmas.List.Edits.{sets-eq}
use Rattle.octets.specs.Octets.{le_at, bytes_of, put, Bytes}

-- two numbers: the one is below, or the other is not above
pub below_or : (m n : ℕ) → (m < n) ⊎ (n ≤ m)
below_or m n = go (dec_lt m n)
  where
    go : Dec (m < n) → (m < n) ⊎ (n ≤ m)
    go (yes h) = inl h
    go (no h) = inr (omega arith)

-- ---- put: the length stays; a byte before the run, behind it, and within it
pub length_put : (t : List ℕ) (p : ℕ) (vs : List ℕ) → length (put t p vs) ≡ length t
unfolding put
length_put t p vs = length-sets t p vs

pub get_d_put_below : (t : List ℕ) (p : ℕ) (vs : List ℕ) (j : ℕ) → j < p → get_or (put t p vs) j 0 ≡ get_or t j 0
unfolding put
get_d_put_below t p [] j h = refl
get_d_put_below t p (v ∷ vs) j h = get_d_put_below (set t p v) (suc p) vs j (omega arith) ∙ get_or-set_other t p j v 0 (λ e. omega arith)

pub get_d_put_above : (t : List ℕ) (p : ℕ) (vs : List ℕ) (j : ℕ) → p + length vs ≤ j → get_or (put t p vs) j 0 ≡ get_or t j 0
unfolding put
get_d_put_above t p [] j h = refl
get_d_put_above t p (v ∷ vs) j h = get_d_put_above (set t p v) (suc p) vs j (omega arith) ∙ get_or-set_other t p j v 0 (λ e. omega arith)

pub get_d_put_in : (t : List ℕ) (p : ℕ) (vs : List ℕ) (k : ℕ) → k < length vs → p + length vs ≤ length t → get_or (put t p vs) (p + k) 0 ≡ get_or vs k 0
unfolding put
get_d_put_in t p [] k h room = absurd (not-suc-le-zero h)
get_d_put_in t p (v ∷ vs) zero h room =
    ap (λ (j : ℕ). get_or (sets (set t p v) (suc p) vs) j 0) (add-zero p)
    ∙ get_d_put_below (set t p v) (suc p) vs p (omega arith)
    ∙ get_or-set_same t p v 0 (omega arith)
get_d_put_in t p (v ∷ vs) (suc k) h room =
    ap (λ (j : ℕ). get_or (sets (set t p v) (suc p) vs) j 0) (add-suc p k ∙ sym (suc-add p k))
    ∙ get_d_put_in (set t p v) (suc p) vs k (omega arith) (simp length-set (omega arith))

-- a byte put in front of a run, and two runs one after the other, are one run
pub put_cons : (t : List ℕ) (p v : ℕ) (vs : List ℕ) → put (set t p v) (p + 1) vs ≡ put t p (v ∷ vs)
unfolding put
put_cons t p v vs = rw add-one

pub put_put : (t : List ℕ) (p : ℕ) (xs ys : List ℕ) → put (put t p xs) (p + length xs) ys ≡ put t p (xs ++ ys)
unfolding put
put_put t p [] ys = ap (λ (k : ℕ). sets t k ys) (add-zero p)
put_put t p (x ∷ xs) ys =
    ap (λ (k : ℕ). sets (sets (set t p x) (suc p) xs) k ys) (add-suc p (length xs) ∙ sym (suc-add p (length xs)))
    ∙ put_put (set t p x) (suc p) xs ys

-- the same, of lists one after the other
pub then_put : (t t' t'' : List ℕ) (p q : ℕ) (xs ys : List ℕ) → t' ≡ put t p xs → t'' ≡ put t' q ys → q ≡ p + length xs → t'' ≡ put t p (xs ++ ys)
then_put t t' t'' p q xs ys e f h = f ∙ rw (e, h, put_put)

-- puts at places apart may change places
set_put : (t : List ℕ) (p q a : ℕ) (xs : List ℕ) → p + length xs ≤ q → set (put t p xs) q a ≡ put (set t q a) p xs
unfolding put
set_put t p q a [] h = refl
set_put t p q a (x ∷ xs) h =
    set_put (set t p x) (suc p) q a xs (omega arith)
    ∙ ap (λ (r : List ℕ). sets r (suc p) xs) (set_comm t p q x a (λ e. omega arith))

pub put_comm : (t : List ℕ) (p q : ℕ) (xs ys : List ℕ) → p + length xs ≤ q → put (put t p xs) q ys ≡ put (put t q ys) p xs
unfolding put
put_comm t p q xs [] h = refl
put_comm t p q xs (y ∷ ys) h =
    ap (λ (r : List ℕ). sets r (suc q) ys) (set_put t p q y xs h) ∙ put_comm (set t q y) p (suc q) xs ys (omega arith)

-- a part that was lent as `&mut t[p..]`, and written from its start on, has come back
put_past : (f s : List ℕ) (k : ℕ) (xs : List ℕ) → put (f ++ s) (length f + k) xs ≡ f ++ put s k xs
unfolding put
put_past f s k [] = refl
put_past f s k (x ∷ xs) =
    let e : suc (length f + k) ≡ length f + suc k = omega arith in
    ap (λ (d : List ℕ). sets d (suc (length f + k)) xs) (set_past f s k x)
    ∙ ap (λ (i : ℕ). sets (f ++ set s k x) i xs) e ∙ put_past f (set s k x) (suc k) xs
  where
    set_past : (f s : List ℕ) (k x : ℕ) → set (f ++ s) (length f + k) x ≡ f ++ set s k x
    set_past [] s k x = ap (λ (i : ℕ). set s i x) (zero-add k)
    set_past (a ∷ f) s k x = rw (suc-add (length f) k) (ap (λ (l : List ℕ). a ∷ l) (set_past f s k x))

pub part_back : (t : List ℕ) (p : ℕ) (vs : List ℕ) → p ≤ length t
    → take p t ++ (put (take (length t - p) (drop p t)) 0 vs ++ drop (length t - p) (drop p t)) ≡ put t p vs
part_back t p vs h =
    let all : take (length t - p) (drop p t) ≡ drop p t = take_all (length t - p) (drop p t) (simp length-drop (omega arith)) in
    let none : drop (length t - p) (drop p t) ≡ [] = drop_of_length-le (drop p t) {i = length t - p} (simp length-drop (omega arith)) in
    rw (all, none) (simp append-nil
    (sym (put_past (take p t) (drop p t) 0 vs)
    ∙ ap (λ (d : List ℕ). put d (length (take p t) + 0) vs) (take-append-drop p t)
    ∙ ap (λ (k : ℕ). put t k vs) (add-zero (length (take p t)) ∙ length-take-le p t h)))

-- a part written over, as `&mut t[p..p + k]` gives it back, is put
pub put_over : (t : List ℕ) (p k : ℕ) {ys : List ℕ} (vs : List ℕ) → ys ≡ vs → k ≡ length vs → p + length vs ≤ length t → put_mid p k t ys ≡ put t p vs
unfolding put
put_over t p k {ys} vs e l h = rw (e, l, drop-drop) (sym (append_assoc (take p t) vs (drop (p + length vs) t)) ∙ sym (sets-eq vs t p h))

-- ---- le_at: a number is its bytes
pub le_at_ext : (n : ℕ) (t u : List ℕ) (p q : ℕ) → ((k : ℕ) → k < n → get_or t (p + k) 0 ≡ get_or u (q + k) 0) → le_at n t p ≡ le_at n u q
unfolding le_at
le_at_ext zero t u p q same = refl
le_at_ext (suc n) t u p q same =
    let here : get_or t p 0 ≡ get_or u q 0 = simp add-zero at (same 0 (omega arith)) in
    let rest : le_at n t (p + 1) ≡ le_at n u (q + 1) =
    le_at_ext n t u (p + 1) (q + 1) (λ k h.
    ap (λ (j : ℕ). get_or t j 0) (omega arith) ∙ same (suc k) (omega arith) ∙ ap (λ (j : ℕ). get_or u j 0) (omega arith)) in
    cc

-- below 256 ^ n
pub le_at_lt : (n : ℕ) (t : List ℕ) (p : ℕ) → Bytes t → le_at n t p < 256 ^ n
unfolding le_at
le_at_lt zero t p b = omega arith
le_at_lt (suc n) t p b = rw pow-suc (omega (arith, b p, le_at_lt n t (p + 1) b))

-- before a run that was put, behind it, and within it
pub le_at_below : (n : ℕ) (t : List ℕ) (i : ℕ) (vs : List ℕ) (p : ℕ) → p + n ≤ i → le_at n (put t i vs) p ≡ le_at n t p
le_at_below n t i vs p h = le_at_ext n (put t i vs) t p p (λ k l. get_d_put_below t i vs (p + k) (omega arith))

pub le_at_above : (n : ℕ) (t : List ℕ) (i : ℕ) (vs : List ℕ) (p : ℕ) → i + length vs ≤ p → le_at n (put t i vs) p ≡ le_at n t p
le_at_above n t i vs p h = le_at_ext n (put t i vs) t p p (λ k l. get_d_put_above t i vs (p + k) (omega arith))

pub le_at_in : (n : ℕ) (t : List ℕ) (i : ℕ) (vs : List ℕ) (k : ℕ) → k + n ≤ length vs → i + length vs ≤ length t
    → le_at n (put t i vs) (i + k) ≡ le_at n vs k
le_at_in n t i vs k h room =
    le_at_ext n (put t i vs) vs (i + k) k (λ j l. ap (λ (q : ℕ). get_or (put t i vs) q 0) (add_assoc i k j) ∙ get_d_put_in t i vs (k + j) (omega arith) room)

-- in the rest of a list, and in a part of it
pub le_at_drop : (n : ℕ) (t : List ℕ) (p q : ℕ) → le_at n (drop p t) q ≡ le_at n t (p + q)
le_at_drop n t p q = le_at_ext n (drop p t) t q (p + q) (λ k l. get_or-drop p t (q + k) 0 ∙ ap (λ (j : ℕ). get_or t j 0) (sym (add_assoc p q k)))

pub le_at_part : (n m : ℕ) (t : List ℕ) (p : ℕ) → n ≤ m → le_at n (take m (drop p t)) 0 ≡ le_at n t p
le_at_part n m t p h =
    le_at_ext n (take m (drop p t)) t 0 p
    (λ k l. let z : 0 + k < m = omega arith in get_or-take m (drop p t) (0 + k) 0 z ∙ get_or-drop p t (0 + k) 0 ∙ ap (λ (j : ℕ). get_or t (p + j) 0) (zero-add k))

-- ---- bytes_of: how many; read back; put where they stand
pub length_bytes_of : (n v : ℕ) → length (bytes_of n v) ≡ n
unfolding bytes_of
length_bytes_of zero v = refl
length_bytes_of (suc n) v = ap suc (length_bytes_of n (v / 256))

le_at_cons : (n x : ℕ) (xs : List ℕ) (p : ℕ) → le_at n (x ∷ xs) (p + 1) ≡ le_at n xs p
le_at_cons n x xs p = le_at_ext n (x ∷ xs) xs (p + 1) p (λ k l. ap (λ (j : ℕ). get_or (x ∷ xs) j 0) (next p k))
  where
    next : (p k : ℕ) → p + 1 + k ≡ suc (p + k)
    next p k = omega arith

pub le_at_bytes_of : (n v : ℕ) → v < 256 ^ n → le_at n (bytes_of n v) 0 ≡ v
unfolding le_at bytes_of
le_at_bytes_of zero v h = omega arith
le_at_bytes_of (suc n) v h =
    let small : v / 256 < 256 ^ n = (div-lt_iff_lt-mul {k = 256} (lit< tt)).1 (rw pow-suc at h) in
    let rest : le_at n (v % 256 ∷ bytes_of n (v / 256)) (0 + 1) ≡ v / 256 =
    le_at_cons n (v % 256) (bytes_of n (v / 256)) 0 ∙ le_at_bytes_of n (v / 256) small in
    ap (λ (r : ℕ). v % 256 + 256 * r) rest ∙ mod-add-div v 256

pub get_put : (n : ℕ) (t : List ℕ) (p v : ℕ) → v < 256 ^ n → p + n ≤ length t → le_at n (put t p (bytes_of n v)) p ≡ v
get_put n t p v small room =
    let e : length (bytes_of n v) ≡ n = length_bytes_of n v in
    ap (λ (q : ℕ). le_at n (put t p (bytes_of n v)) q) (sym (add-zero p))
    ∙ le_at_in n t p (bytes_of n v) 0 (omega arith) (omega arith)
    ∙ le_at_bytes_of n v small

-- the same of a number that was put as a part of a run
pub get_part : (n : ℕ) (t : List ℕ) (p : ℕ) (vs : List ℕ) (k v : ℕ) → le_at n vs k ≡ le_at n (bytes_of n v) 0 → k + n ≤ length vs
    → p + length vs ≤ length t → v < 256 ^ n → le_at n (put t p vs) (p + k) ≡ v
get_part n t p vs k v e h room small = le_at_in n t p vs k h room ∙ e ∙ le_at_bytes_of n v small

pub put_same : (n : ℕ) (t : List ℕ) (p : ℕ) → Bytes t → put t p (bytes_of n (le_at n t p)) ≡ t
unfolding le_at bytes_of put
put_same zero t p b = refl
put_same (suc n) t p b =
    let r : ℕ = le_at n t (p + 1) in
    let x : ℕ = get_or t p 0 in
    let lo : (x + 256 * r) % 256 ≡ x = omega (arith, b p) in
    let hi : (x + 256 * r) / 256 ≡ r = omega (arith, b p) in
    rw (lo, hi, set-get_or, ← add-one p) (put_same n t (p + 1) b)

-- ---- the loop that reads from the last byte down: nothing read; a byte more; and it fits while fewer than 8 were read
pub le_at_none : (n : ℕ) (t : List ℕ) (p : ℕ) → le_at (n - n) t p ≡ 0
unfolding le_at
le_at_none n t p = rw sub_self

pub le_at_back : (n k : ℕ) (t : List ℕ) (p : ℕ) → 0 < k → k ≤ n
    → get_or t (p + (k - 1)) 0 + 256 * le_at (n - k) t (p + k) ≡ le_at (n - (k - 1)) t (p + (k - 1))
unfolding le_at
le_at_back n k t p h l =
    let e : n - (k - 1) ≡ suc (n - k) = omega arith in
    let q : p + k ≡ p + (k - 1) + 1 = omega arith in
    rw (e, q)

pub le_at_room : (m r b : ℕ) → m < 8 → r < 256 ^ m → b < 256 → b + 256 * r < 2 ^ 64
le_at_room m r b h small byte =
    let top : 256 ^ suc m ≤ 256 ^ 8 = pow-le-pow_right {n = 256} (lit< tt) h in
    let top' : 256 ^ m * 256 ≤ 2 ^ 64 = rw (pow-suc 256 m) at top in
    omega arith

-- ---- the loop that writes from the first byte up: a byte more
pub put_more : (n k : ℕ) (t : List ℕ) (p w : ℕ) → k < n
    → put (set t (p + k) (w % 256)) (p + (k + 1)) (bytes_of (n - (k + 1)) (w / 256)) ≡ put t (p + k) (bytes_of (n - k) w)
unfolding bytes_of put
put_more n k t p w h =
    let e : n - k ≡ suc (n - (k + 1)) = omega arith in
    let q : p + (k + 1) ≡ suc (p + k) = omega arith in
    rw (e, q)
