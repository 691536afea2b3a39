-- Lists one behind the other: how long they are, each of them found again in the whole, a list cut into such parts; and a loop that writes
-- them, block by block, into an area.
use mathlib.Core.Path.{◌≡◌, refl, sym, ap, ◌∙◌}
use mathlib.Core.List.{List, [], ◌++◌, append-nil}
use mathlib.Core.Logic.{⊎_elim}
use Prim.Native.Nat.{ℕ, zero, suc, ◌+◌, ◌*◌, ◌≤◌, ◌<◌}
use native.Mathlib.Nat.{mul-zero, mul-suc, mul-le-mul_left, not-suc-le-zero}
use native.Mathlib.Numerals.{add-one}
use native.Mathlib.Omega.{arith}
use lib.ListN.{length, take, drop, length-append, length-drop, drop_of_length-le}
use lib.Seq.{take_all, take-add, take-append-le, drop-append-le, drop_at, sets-eq}
use Rattle.octets.specs.Octets.{put, part_at}
use Rattle.octets.proofs.Places.{below_or, put_put, length_put}
use Rattle.image.specs.Image.{in_turn}

pub turn_none : (f : ℕ → List ℕ) → in_turn f 0 ≡ []
unfolding in_turn
turn_none f = refl

pub turn_more : (f : ℕ → List ℕ) (n : ℕ) → in_turn f (n + 1) ≡ in_turn f n ++ f n
unfolding in_turn
turn_more f n = rw add-one

pub turn_ext : (f g : ℕ → List ℕ) (n : ℕ) → ((k : ℕ) → k < n → f k ≡ g k) → in_turn f n ≡ in_turn g n
unfolding in_turn
turn_ext f g zero h = refl
turn_ext f g (suc n) h =
    let a : in_turn f n ≡ in_turn g n = turn_ext f g n (λ k l. h k (omega arith)) in
    let b : f n ≡ g n = h n (omega arith) in
    rw (a, b)

-- ---- each of them m long
module _ (f : ℕ → List ℕ) (m : ℕ) where
  pub length_turn : (n : ℕ) → ((k : ℕ) → k < n → length (f k) ≡ m) → length (in_turn f n) ≡ m * n
  unfolding in_turn
  length_turn zero long = omega (arith, mul-zero m)
  length_turn (suc n) long =
      length-append (in_turn f n) (f n) ∙ rw (length_turn n (λ k l. long k (omega arith)), long n (omega arith), mul-suc)

  -- the one at k is the part from m * k on
  pub part_turn : (n k : ℕ) → ((i : ℕ) → i < n → length (f i) ≡ m) → k < n → part_at (in_turn f n) (m * k) m ≡ f k
  unfolding in_turn part_at
  part_turn zero k long l = absurd (not-suc-le-zero l)
  part_turn (suc n) k long l =
      let front : (i : ℕ) → i < n → length (f i) ≡ m = λ i j. long i (omega arith) in
      let whole : length (in_turn f n) ≡ m * n = length_turn n front in
      ⊎_elim
      (λ (a : k < n).
      let fits : m * suc k ≤ m * n = mul-le-mul_left m a in
      let room : m * k + m ≤ length (in_turn f n) = omega (arith, mul-suc m k) in
      rw (drop-append-le (m * k) (in_turn f n) (f n) (omega arith))
      (take-append-le m (drop (m * k) (in_turn f n)) (f n) (simp length-drop (omega arith)) ∙ part_turn n k front a))
      (λ (a : n ≤ k).
      let e : k ≡ n = omega arith in
      rw (e, drop_at (in_turn f n) (f n) (m * n) whole) (take_all m (f n) (omega (arith, long n (omega arith)))))
      (below_or k n)

-- a list cut into parts of m, n of them: they come to its first m * n
pub turn_parts : (xs : List ℕ) (m n : ℕ) → in_turn (λ k. part_at xs (m * k) m) n ≡ take (m * n) xs
unfolding in_turn part_at
turn_parts xs m zero = rw (mul-zero m)
turn_parts xs m (suc n) = rw (turn_parts xs m n, mul-suc m n) (sym (take-add (m * n) m xs))

-- ---- written one behind the other from the start of an area on
pub put_more : (t₀ t : List ℕ) (f : ℕ → List ℕ) (k p : ℕ) → t ≡ put t₀ 0 (in_turn f k) → p ≡ length (in_turn f k)
    → put t p (f k) ≡ put t₀ 0 (in_turn f (k + 1))
put_more t₀ t f k p e h =
    let z : p ≡ 0 + length (in_turn f k) = omega arith in
    rw (e, z, turn_more f k) (put_put t₀ 0 (in_turn f k) (f k))

pub put_none : (t : List ℕ) (f : ℕ → List ℕ) → t ≡ put t 0 (in_turn f 0)
unfolding in_turn put
put_none t f = refl

-- where they fill the area, nothing else is left
pub put_all : (t xs : List ℕ) → length xs ≡ length t → put t 0 xs ≡ xs
unfolding put
put_all t xs e =
    sets-eq xs t 0 (omega arith) ∙ ap (λ (l : List ℕ). xs ++ l) (drop_of_length-le t {i = 0 + length xs} (omega arith)) ∙ append-nil xs

-- ---- a loop that writes 65 of them and has written k
pub record Written (t₀ : List ℕ) (f : ℕ → List ℕ) (t : List ℕ) (k : ℕ) : Type 0 where
  pub within : k ≤ 65
  pub so_far : t ≡ put t₀ 0 (in_turn f k)

pub written_none : {t : List ℕ} {f : ℕ → List ℕ} → Written t f t 0
written_none {t} {f} = record { within = omega arith; so_far = put_none t f }

pub written_long : {t₀ t : List ℕ} {f : ℕ → List ℕ} {k : ℕ} → Written t₀ f t k → length t ≡ length t₀
written_long {t₀} {f = f} {k = k} w = ap length w.so_far ∙ length_put t₀ 0 (in_turn f k)

pub written_more : {t₀ t : List ℕ} {f : ℕ → List ℕ} {k : ℕ} (p : ℕ) (u : List ℕ) → Written t₀ f t k → k < 65 → p ≡ length (in_turn f k) → u ≡ put t p (f k) → Written t₀ f u (k + 1)
written_more {t₀} {t} {f} {k} p u w l h e = record { within = omega arith; so_far = e ∙ put_more t₀ t f k p w.so_far h }

pub written_end : {t₀ t : List ℕ} {f : ℕ → List ℕ} {k : ℕ} → Written t₀ f t k → 65 ≤ k → length (in_turn f 65) ≡ length t₀ → t ≡ in_turn f 65
written_end {t₀} {t} {f} {k} w l e =
    let z : k ≡ 65 = omega (arith, w.within) in
    rw z at w.so_far ∙ put_all t₀ (in_turn f 65) e
