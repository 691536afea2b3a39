-- A text with its room, tested in one pass by rows of bounds, against the text and the zeros behind it.
use Rattle.std.proofs.Common.{◌≡◌, ℕ, zero, suc, ◌+◌, ◌-◌, ◌%◌, ◌^◌, ◌<◌, ◌≤◌, Bool, true, ◌&&◌, eqb, ltb, leb, List, [], ◌∷◌, length, get_or, take, drop, replicate, sym, refl, ap, ◌∙◌, zero-le, arith, lit<, drop-cons, ltb-false, ltb-true, eqb-true, le-leb, leb-false, leb-true}
use mathlib.Core.Bool.{and_assoc, and-true}
use borrow.Author.Tests.{lt-leb, eqb-false}
use Rattle.octets.specs.Octets.{part_at, all_zero}
use Rattle.octets.specs.Written.{Wrote}
use Rattle.octets.proofs.Bools.{split}
use Rattle.octets.proofs.Places.{length_put, get_d_put_in, get_d_put_above}
use Rattle.octets.proofs.Zeros.{zero_at, zero_replicate}
use Rattle.table.specs.Market.{every}
use Rattle.audit.specs.Rows.{bounds_of, bound, AreRows, between, is_filled}

-- ---- a row: its length, its bound in the first half, zeros in the second; what was written is one
replicate_at : (n x k : ℕ) → k < n → get_or (replicate n x) k 0 ≡ x
replicate_at zero x k l = absurd (omega arith)
replicate_at (suc n) x zero l = refl
replicate_at (suc n) x (suc k) l = replicate_at n x k (omega arith)

row_in : (x k : ℕ) → k < 32 → get_or (bounds_of x) k 0 ≡ x
unfolding bounds_of
row_in x k l =
    let z : 0 + k ≡ k = omega arith in
    rw z at (get_d_put_in (replicate 64 0) 0 (replicate 32 x) k l (lit< tt)) ∙ replicate_at 32 x k l

row_out : (x k : ℕ) → 32 ≤ k → get_or (bounds_of x) k 0 ≡ 0
unfolding bounds_of
row_out x k l = get_d_put_above (replicate 64 0) 0 (replicate 32 x) k l ∙ zero_at (replicate 64 0) (zero_replicate 64) k

row_long : (row : List ℕ) (x : ℕ) → row ≡ bounds_of x → length row ≡ 64
unfolding bounds_of
row_long row x e = ap length e ∙ length_put (replicate 64 0) 0 (replicate 32 x)

pub row_bound : (row : List ℕ) (x : ℕ) → row ≡ bounds_of x → bound row ≡ x
row_bound row x e = ap bound e ∙ row_in x 0 (lit< tt)

pub rows_are : (low span : List ℕ) (x y : ℕ) → low ≡ bounds_of x → span ≡ bounds_of y → x + y < 256 → AreRows low span
rows_are low span x y e f l =
    let a : bound low ≡ x = row_bound low x e in
    let b : bound span ≡ y = row_bound span y f in
    record {
      low_is = e ∙ ap bounds_of (sym a);
      low_long = row_long low x e;
      span_is = f ∙ ap bounds_of (sym b);
      span_long = row_long span y f;
      bytes = rw (a, b) l;
    }

pub row_wrote : (x next : ℕ) (row : List ℕ) → Wrote (replicate 64 0) 0 (replicate 32 x) next row → row ≡ bounds_of x
unfolding bounds_of
row_wrote x next row w = w.bytes_in

-- ---- the test of one byte: by one comparison; by two rows, a character or zero
span_is : (x low span r : ℕ) → low + span < 256 → r < 256 → (r + low) % 2 ^ 8 ≡ x → leb r span ≡ (leb low x && leb x (low + span))
span_is x low span r l b e =
    split (leb r span)
    (λ f.
    let q : (r + low) % 256 ≡ r + low = omega (arith, leb-true r span f) in
    rw (f, le-leb low x (omega arith), le-leb x (low + span) (omega (arith, leb-true r span f))))
    (λ f. rw f (sym (split (leb low x)
    (λ g. rw (g, lt-leb x (low + span) (omega (arith, leb-false r span f, leb-true low x g))))
    (λ g. rw g))))

pub wrapped_is : (x low span : ℕ) → low + span < 256 → x < 256 → leb ((x + (256 - low)) % 256) span ≡ (leb low x && leb x (low + span))
wrapped_is x low span l b = span_is x low span ((x + (256 - low)) % 256) l (omega arith) (omega arith)

module _ (low span : List ℕ) (rows : AreRows low span) (k : ℕ) where
  low_in : k < 32 → get_or low k 0 ≡ bound low
  low_in b = ap (λ (r : List ℕ). get_or r k 0) rows.low_is ∙ row_in (bound low) k b

  span_in : k < 32 → get_or span k 0 ≡ bound span
  span_in b = ap (λ (r : List ℕ). get_or r k 0) rows.span_is ∙ row_in (bound span) k b

  low_out : 32 ≤ k → get_or low k 0 ≡ 0
  low_out b = ap (λ (r : List ℕ). get_or r k 0) rows.low_is ∙ row_out (bound low) k b

  span_out : 32 ≤ k → get_or span k 0 ≡ 0
  span_out b = ap (λ (r : List ℕ). get_or r k 0) rows.span_is ∙ row_out (bound span) k b

  pub rows_bytes : get_or low k 0 + get_or span k 0 < 256
  rows_bytes =
      split (ltb k 32)
      (λ e. rw (low_in (ltb-true k 32 e), span_in (ltb-true k 32 e)) rows.bytes)
      (λ e. rw (low_out (ltb-false k 32 e), span_out (ltb-false k 32 e)) (lit< tt))

  test_in : (x : ℕ) → k < 32 → (leb (get_or low k 0) x && leb x (get_or low k 0 + get_or span k 0)) ≡ between low span x
  test_in x b = rw (low_in b, span_in b)

  test_out : (x : ℕ) → 32 ≤ k → (leb (get_or low k 0) x && leb x (get_or low k 0 + get_or span k 0)) ≡ eqb x 0
  test_out x b =
      rw (low_out b, span_out b, le-leb 0 x zero-le) (split (eqb x 0)
      (λ e. rw e (le-leb x 0 (omega (arith, eqb-true x 0 e))))
      (λ e. rw e (lt-leb x 0 (omega (arith, eqb-false x 0 e)))))

-- ---- a loop that has tested i of the bytes: at the start, one turn on, and at the end
pub part_more : (t : List ℕ) (p n : ℕ) → p < length t → part_at t p (suc n) ≡ get_or t p 0 ∷ part_at t (p + 1) n
unfolding part_at
part_more t p n l = let q : p + 1 ≡ suc p = omega arith in rw (drop-cons t p 0 l, q)

pub take_none : (xs : List ℕ) → take 0 xs ≡ []
take_none [] = refl
take_none (x ∷ xs) = refl

pub part_empty : (t : List ℕ) (p : ℕ) → part_at t p 0 ≡ []
unfolding part_at
part_empty t p = take_none (drop p t)

zeros_more : (room n i : ℕ) → n ≤ i → i < room → room - n - (i - n) ≡ suc (room - n - (i + 1 - n))
zeros_more room n i l m = omega arith

zeros_at : (p n i : ℕ) → n ≤ i → p + n + (i - n) ≡ p + i
zeros_at p n i l = omega arith

zeros_next : (p n i : ℕ) → n ≤ i → p + n + (i + 1 - n) ≡ p + i + 1
zeros_next p n i l = omega arith

module _ (low span : List ℕ) (room : ℕ) (t : List ℕ) (p n : ℕ) where
  -- what is left to test of the characters and of the zeros
  abbrev left_of : ℕ → Bool
  left_of i = every (between low span) (part_at t (p + i) (n - i)) && all_zero (part_at t (p + n + (i - n)) (room - n - (i - n)))

  pub record Filling (good : Bool) (i : ℕ) : Type 0 where
    pub within : i ≤ room
    pub left : (good && left_of i) ≡ is_filled low span room t p n

  pub filling_none : Filling true 0
  unfolding is_filled
  filling_none =
      let a : p + 0 ≡ p = omega arith in
      let b : n - 0 ≡ n = omega arith in
      let c : p + n + (0 - n) ≡ p + n = omega arith in
      let d : room - n - (0 - n) ≡ room - n = omega arith in
      record { within = zero-le; left = rw (a, b, c, d) }

  turn_in : (i : ℕ) → i < n → n ≤ room → p + room ≤ length t → left_of i ≡ (between low span (get_or t (p + i) 0) && left_of (i + 1))
  unfolding every
  turn_in i l m s =
      let a : n - i ≡ suc (n - (i + 1)) = omega arith in
      let b : p + i + 1 ≡ p + (i + 1) = omega arith in
      let c : i - n ≡ i + 1 - n = omega arith in
      rw (a, part_more t (p + i) (n - (i + 1)) (omega arith), b, c) (and_assoc (between low span (get_or t (p + i) 0)) _ _)

  turn_out : (i : ℕ) → n ≤ i → i < room → p + room ≤ length t → left_of i ≡ (eqb (get_or t (p + i) 0) 0 && left_of (i + 1))
  unfolding every all_zero
  turn_out i l m s =
      let r : p + i < length t = omega arith in
      let a : n - i ≡ 0 = omega arith in
      let b : n - (i + 1) ≡ 0 = omega arith in
      rw (a, b, zeros_more room n i l m, zeros_at p n i l, zeros_next p n i l, part_empty t (p + i), part_empty t (p + (i + 1)), part_more t (p + i) (room - n - (i + 1 - n)) r)

  pub filling_more : {good : Bool} {i : ℕ} (r : Bool) → AreRows low span → Filling good i → i < room → n ≤ room → room ≤ 32 → p + room ≤ length t
      → r ≡ (leb (get_or low (32 - n + i) 0) (get_or t (p + i) 0) && leb (get_or t (p + i) 0) (get_or low (32 - n + i) 0 + get_or span (32 - n + i) 0))
      → Filling (good && r) (i + 1)
  filling_more {good} {i} r rows f l m s u e =
      let x : ℕ = get_or t (p + i) 0 in
      let k : ℕ = 32 - n + i in
      let turn : left_of i ≡ (r && left_of (i + 1)) =
      split (ltb i n)
      (λ g. turn_in i (ltb-true i n g) m u ∙ ap (λ (b : Bool). b && left_of (i + 1)) (sym (e ∙ test_in low span rows k x (omega (arith, ltb-true i n g)))))
      (λ g. turn_out i (ltb-false i n g) l u ∙ ap (λ (b : Bool). b && left_of (i + 1)) (sym (e ∙ test_out low span rows k x (omega (arith, ltb-false i n g))))) in
      record { within = omega arith; left = and_assoc good r (left_of (i + 1)) ∙ rw (← turn) f.left }

  pub filling_end : {good : Bool} {i : ℕ} → Filling good i → room ≤ i → n ≤ room → good ≡ is_filled low span room t p n
  unfolding every all_zero
  filling_end {good} {i} f l m =
      let a : n - i ≡ 0 = omega arith in
      let b : room - n - (i - n) ≡ 0 = omega arith in
      let none : left_of i ≡ true = rw (a, b, part_empty t (p + i), part_empty t (p + n + (i - n))) in
      sym (and-true good) ∙ rw none at f.left
