-- Reading canonically what was written gives it back, and only the written text is read: of numbers, of exactly k digits, and
-- of numbers with k decimals, of which yields, prices and AvgPx are instances.
use Prim.Native.Nat.{ℕ, zero, suc, ◌+◌, ◌-◌, ◌*◌, ◌/◌, ◌%◌, ◌^◌, ◌≤◌, ◌<◌}
use mathlib.Core.Path.{◌≡◌, refl, sym, ap, ◌∙◌}
use mathlib.Core.List.{List, [], ◌∷◌, ◌++◌, append_assoc, append-nil}
use mathlib.Core.Bool.{Bool, true, false, cond, not, ◌&&◌, ◌||◌}
use native.Mathlib.Omega.{arith}
use native.Mathlib.Nat.{pow-le-pow_right, div-lt_iff_lt-mul, mul_comm, mul-add-div_right, div-eq_of_lt, add-zero, zero-add, not-suc-le-zero, div-le_self}
use native.Mathlib.Numerals.{add-one}
use native.Mathlib.Decide.{dec_lt}
use lib.Dec.{ltb, leb, eqb}
use lib.ListN.{length, length-append, get_or, take, drop, take-append-drop}
use lib.Seq.{take_at, drop_at, drop-cons}
use borrow.Author.Tests.{eq-eqb, ne_eqb, lt-ltb, le-ltb, le-leb, eqb-true, eqb-false, ltb-true, not-true}
use Rattle.std.proofs.lemmas.Option.{cond_some}
use Rattle.std.specs.Prelude.{Option, Some, None}
use Rattle.octets.proofs.Bools.{split, both_l, both_r, or_l, or_r}
use Rattle.decimal.specs.declared.Instrument.{Instrument}
use Rattle.decimal.specs.declared.Instrument.TheVariants.{Bonds, Equities}
use Rattle.decimal.specs.Reading.{is_digit, run_of, digit_run, number, number_after, is_number, num_of}
use Rattle.decimal.specs.Instruments.{stands_for, highest, highest_mean}
use Rattle.decimal.specs.Writing.{decimal, places, zero_of, plain, fixed, level_text, mean_text}
use Rattle.decimal.specs.Canonical.{bare, bare_of, exactly_of, joined, amount_of, below_zero, above_zero, fixed_of, level_in, mean_in}
use Rattle.decimal.proofs.Scans.{run_below, byte_within}
use Rattle.decimal.proofs.Yields.{ten_some, under_both}
use Rattle.decimal.proofs.Numbers.{digit_low, digit_high, number_below, num_below}
use Rattle.decimal.proofs.Digits.{decimal_small, decimal_more, decimal_few, length_small, length_more, length_places}
use Rattle.decimal.proofs.Afters.{digits_head, digits_tail, run_append, after_shift, said_decimal, digits_decimal, digits_places, said_places, written_places, written_decimal}

-- ---- numbers

pub decimal_some : (n : ℕ) → n < 2 ^ 64 → 1 ≤ length (decimal n)
decimal_some n f =
    elim (dec_lt n 10) [
      | yes p ↦ omega (arith, length_small n p)
      | no p ↦ omega (arith, length_more n (omega (arith, p)) f)
    ]

-- the first digit of a number that has several is not 0
first_digit : (k n : ℕ) (t : List ℕ) → n < 10 ^ suc k → n < 2 ^ 64 → 1 ≤ n → get_or (decimal n ++ t) 0 0 ≡ 48 → ⊥
first_digit zero n t h f l e = omega (arith, l, ap (λ (s : List ℕ). get_or (s ++ t) 0 0) (sym (decimal_small n h)) ∙ e)
first_digit (suc k) n t h f l e =
    elim (dec_lt n 10) [
      | yes p ↦ omega (arith, l, ap (λ (s : List ℕ). get_or (s ++ t) 0 0) (sym (decimal_small n p)) ∙ e)
      | no p ↦
          let big : 10 ≤ n = omega (arith, p) in
          first_digit k (n / 10) ((48 + n % 10) ∷ t) (omega (arith, h)) (omega (arith, f)) (omega (arith, big))
          (ap (λ (s : List ℕ). get_or s 0 0) (sym (append_assoc (decimal (n / 10)) ((48 + n % 10) ∷ []) t))
          ∙ ap (λ (s : List ℕ). get_or (s ++ t) 0 0) (sym (decimal_more n big f)) ∙ e)
    ]

pub bare_decimal : (n : ℕ) → n < 2 ^ 64 → bare (decimal n) ≡ true
unfolding bare
bare_decimal n f =
    elim (dec_lt n 10) [
      | yes p ↦ or_l _ _ (eq-eqb (length (decimal n)) 1 (length_small n p))
      | no p ↦
          let first : get_or (decimal n) 0 0 ≡ 48 → ⊥ =
          λ e. first_digit 19 n [] (omega arith) f (omega (arith, p)) (ap (λ (s : List ℕ). get_or s 0 0) (append-nil (decimal n)) ∙ e) in
          rw (ne_eqb (get_or (decimal n) 0 0) 48 first) (or_true (eqb (length (decimal n)) 1))
    ]
  where
    or_true : (a : Bool) → (a || true) ≡ true
    or_true true = refl
    or_true false = refl

-- what was written is read back
pub bare_back : (k n : ℕ) → n < 10 ^ suc k → n < 2 ^ 64 → bare_of (suc k) (decimal n) ≡ Some n
unfolding bare_of num_of is_number
bare_back k n h f =
    rw (bare_decimal n f)
    (simp (
      lt-ltb 0 (length (decimal n)) (decimal_some n f),
      le-leb (length (decimal n)) (suc k) (decimal_few k n h),
      eq-eqb (digit_run (decimal n)) (length (decimal n)) (digits_decimal n f),
      said_decimal n f,
    ))

-- a text of digits with no needless zero is that of the number that they say
bare_is : (s : List ℕ) (n : ℕ) → bare s ≡ true → digit_run s ≡ length s → 0 < length s → number s ≡ n → n < 2 ^ 64 → s ≡ decimal n
unfolding bare number_after
bare_is [] n b e l q f = absurd (not-suc-le-zero l)
bare_is (x ∷ []) n b e l q f =
    let d = digits_head x [] e in
    let y : x ≡ 48 + n = omega (arith, digit_low x d) in
    rw y (sym (decimal_small n (omega (arith, digit_high x d))))
bare_is (x ∷ y ∷ s) n b e l q f =
    let d = digits_head x (y ∷ s) e in
    let nz = eqb-false x 48 (not-true (eqb x 48) (or_r (eqb (suc (suc (length s))) 1) (not (eqb x 48)) b (ne_eqb (suc (suc (length s))) 1 (λ z. omega arith)))) in
    let low = digit_low x d in
    let one : 1 ≤ 0 * 10 + (x - 48) = omega (arith, nz) in
    let w : decimal n ≡ decimal (0 * 10 + (x - 48)) ++ (y ∷ s) =
    ap decimal (sym q) ∙ written_decimal (0 * 10 + (x - 48)) (y ∷ s) one (digits_tail x (y ∷ s) e) (rw (← q) at f) in
    let h : decimal (0 * 10 + (x - 48)) ≡ x ∷ [] =
    decimal_small (0 * 10 + (x - 48)) (omega (arith, digit_high x d)) ∙ ap (λ (k : ℕ). k ∷ []) (omega arith) in
    sym (w ∙ ap (λ (l : List ℕ). l ++ (y ∷ s)) h)

both : (a b : Bool) (v n : ℕ) → cond a (cond b (Some v) None) None ≡ Some n → (a ≡ true) × (b ≡ true) × (v ≡ n)
both true true v n e = (refl, refl, cc)
both true false v n e = let z : ◌≡◌ {A = ℕ} 0 1 = cc in absurd (omega arith)
both false b v n e = let z : ◌≡◌ {A = ℕ} 0 1 = cc in absurd (omega arith)

-- only what would be written is read
module _ (m : ℕ) (s : List ℕ) (n : ℕ) (h : m ≤ 19) (e : bare_of m s ≡ Some n) where
  pub bare_small : n < 10 ^ m
  unfolding bare_of num_of
  bare_small =
      let p = both (bare s) (is_number m s) (number s) n e in
      num_below m s n (rw p.1 (ap Some p.2))

  pub bare_only : s ≡ decimal n
  unfolding bare_of num_of is_number
  bare_only =
      let p = both (bare s) (is_number m s) (number s) n e in
      let a = ltb 0 (length s) in
      let fits : n < 2 ^ 64 = omega (arith, bare_small, pow-le-pow_right {n = 10} (omega arith) h) in
      bare_is s n p.0 (eqb-true (digit_run s) (length s) (both_r (a && leb (length s) m) (eqb (digit_run s) (length s)) p.1))
      (ltb-true 0 (length s) (both_l a (leb (length s) m) (both_l (a && leb (length s) m) (eqb (digit_run s) (length s)) p.1)))
      p.2 fits

-- ---- exactly k digits
pub exactly_back : (k m : ℕ) → exactly_of k (places k m) ≡ Some (number (places k m))
unfolding exactly_of
exactly_back k m =
    let l = length_places k m in
    simp (eq-eqb (length (places k m)) k l, eq-eqb (digit_run (places k m)) k (digits_places k m ∙ l))

module _ (k : ℕ) (s : List ℕ) (b : ℕ) (e : exactly_of k s ≡ Some b) where
  tested : (eqb (length s) k && eqb (digit_run s) k ≡ true) × (number s ≡ b)
  unfolding exactly_of
  tested = cond_some (eqb (length s) k && eqb (digit_run s) k) (number s) b e

  exactly_length : length s ≡ k
  exactly_length = eqb-true (length s) k (both_l (eqb (length s) k) (eqb (digit_run s) k) tested.0)

  exactly_digits : digit_run s ≡ length s
  exactly_digits = eqb-true (digit_run s) k (both_r (eqb (length s) k) (eqb (digit_run s) k) tested.0) ∙ sym exactly_length

  pub exactly_small : b < 10 ^ k
  exactly_small = let n = number_below s exactly_digits in rw (tested.1, exactly_length) at n

  -- whatever stands before them
  pub exactly_after : (a : ℕ) → s ≡ places k (a * 10 ^ k + b)
  unfolding places
  exactly_after a =
      let l = exactly_length in
      let n = tested.1 in
      let w : places (0 + length s) (number_after a s) ≡ s = written_places 0 a s exactly_digits in
      let v : number_after a s ≡ a * 10 ^ k + b = after_shift a s ∙ rw (l, n) in
      sym (ap (λ (j : ℕ). places j (a * 10 ^ k + b)) (sym l ∙ sym (zero-add (length s))) ∙ ap (places (0 + length s)) (sym v) ∙ w)

  pub exactly_only : s ≡ places k b
  exactly_only = exactly_after 0 ∙ ap (places k) (omega arith)

-- ---- amounts with k decimals
pub record Joined (k : ℕ) (p q : Option ℕ) (m : ℕ) : Type 0 where
  pub whole : ℕ
  pub part : ℕ
  pub whole_is : p ≡ Some whole
  pub part_is : q ≡ Some part
  pub sum : whole * 10 ^ k + part ≡ m

-- digits, a point, and what follows
module _ (x y : List ℕ) (e : digit_run x ≡ length x) where
  point_run : digit_run (x ++ (46 ∷ y)) ≡ length x
  unfolding run_of is_digit
  point_run = run_append x (46 ∷ y) e ∙ add-zero (length x)

  point_at : get_or (x ++ (46 ∷ y)) (length x) 0 ≡ 46
  point_at = point x y
    where
      point : (x y : List ℕ) → get_or (x ++ (46 ∷ y)) (length x) 0 ≡ 46
      point [] y = refl
      point (b ∷ x) y = point x y

  point_before : take (length x) (x ++ (46 ∷ y)) ≡ x
  point_before = take_at x (46 ∷ y) (length x) refl

  point_behind : drop (length x + 1) (x ++ (46 ∷ y)) ≡ y
  point_behind =
      ap (drop (length x + 1)) (sym (append_assoc x (46 ∷ []) y))
      ∙ drop_at (x ++ (46 ∷ [])) y (length x + 1) (length-append x (46 ∷ []))

-- a number below a power of ten has at most so many digits
bare_most : (w n : ℕ) → 0 < w → n < 10 ^ w → n < 2 ^ 64 → bare_of w (decimal n) ≡ Some n
bare_most zero n p h f = absurd (not-suc-le-zero p)
bare_most (suc w) n p h f = bare_back w n h f

decimal_most : (w n : ℕ) → 0 < w → n < 10 ^ w → length (decimal n) ≤ w
decimal_most zero n p h = absurd (not-suc-le-zero p)
decimal_most (suc w) n p h = decimal_few w n h

whole_small : (w k m : ℕ) → m < 10 ^ k * 10 ^ w → m / 10 ^ k < 10 ^ w
whole_small w k m h = (div-lt_iff_lt-mul {k = 10 ^ k} (ten_some k)).1 (omega (arith, h, mul_comm (10 ^ k) (10 ^ w)))

pub amount_back : (w k m : ℕ) → 0 < w → m < 10 ^ k * 10 ^ w → m < 2 ^ 64 → amount_of w k (plain k m) ≡ Some m
unfolding amount_of plain
amount_back w k m p h f =
    let a : ℕ = m / 10 ^ k in
    let x : List ℕ = decimal a in
    let y : List ℕ = places k m in
    let small : a < 2 ^ 64 = omega (arith, f, div-le_self m (10 ^ k)) in
    let d : digit_run x ≡ length x = digits_decimal a small in
    let s_is : x ++ (46 ∷ []) ++ y ≡ x ++ (46 ∷ y) = append_assoc x (46 ∷ []) y in
    rw (s_is, point_run x y d, point_at x y d, point_before x y d, point_behind x y d, bare_most w a p (whole_small w k m h) small, exactly_back k m)
    (ap Some (said_places k m))

joined_value : (k : ℕ) (p q : Option ℕ) (m : ℕ) → joined k p q ≡ Some m → Joined k p q m
joined_value k (Some a) (Some b) m e = record { whole = a; part = b; whole_is = refl; part_is = refl; sum = cc }
joined_value k (Some a) None m e = let z : ◌≡◌ {A = ℕ} 0 1 = cc in absurd (omega arith)
joined_value k None q m e = let z : ◌≡◌ {A = ℕ} 0 1 = cc in absurd (omega arith)

split_at : (s : List ℕ) (i b : ℕ) → get_or s i 0 ≡ suc b → s ≡ take i s ++ (suc b ∷ []) ++ drop (i + 1) s
split_at s i b e =
    sym (take-append-drop i s)
    ∙ ap (λ (l : List ℕ). take i s ++ l) (drop-cons s i 0 (byte_within s i b e) ∙ rw (e, add-one))
    ∙ sym (append_assoc (take i s) (suc b ∷ []) (drop (i + 1) s))

cond_value : (t : Bool) (p : Option ℕ) (m : ℕ) → cond t p None ≡ Some m → (t ≡ true) × (p ≡ Some m)
cond_value true p m e = (refl, e)
cond_value false p m e = let z : ◌≡◌ {A = ℕ} 0 1 = cc in absurd (omega arith)

module _ (w k : ℕ) (s : List ℕ) (m : ℕ) (most : w ≤ 19) (e : amount_of w k s ≡ Some m) where
  parts : (get_or s (digit_run s) 0 ≡ 46) × Joined k (bare_of w (take (digit_run s) s)) (exactly_of k (drop (digit_run s + 1) s)) m
  unfolding amount_of
  parts =
      let t = cond_value (eqb (get_or s (digit_run s) 0) 46) (joined k (bare_of w (take (digit_run s) s)) (exactly_of k (drop (digit_run s + 1) s))) m e in
      (eqb-true (get_or s (digit_run s) 0) 46 t.0, joined_value k (bare_of w (take (digit_run s) s)) (exactly_of k (drop (digit_run s + 1) s)) m t.1)

  pub amount_small : m < 10 ^ k * 10 ^ w
  amount_small =
      let j = parts.1 in
      let a = bare_small w (take (digit_run s) s) j.whole most j.whole_is in
      let b = exactly_small k (drop (digit_run s + 1) s) j.part j.part_is in
      omega (arith, j.sum, under_both j.whole j.part w k a b, mul_comm (10 ^ k) (10 ^ w))

  pub amount_only : s ≡ plain k m
  unfolding plain
  amount_only =
      let j = parts.1 in
      let i = digit_run s in
      let a = bare_only w (take i s) j.whole most j.whole_is in
      let b = exactly_after k (drop (i + 1) s) j.part j.part_is j.whole in
      let q : m / 10 ^ k ≡ j.whole =
      ap (λ (n : ℕ). n / 10 ^ k) (sym j.sum) ∙ mul-add-div_right (ten_some k) j.whole j.part
      ∙ ap (λ (n : ℕ). j.whole + n) (div-eq_of_lt (exactly_small k (drop (i + 1) s) j.part j.part_is)) ∙ add-zero j.whole in
      split_at s i 45 parts.0
      ∙ ap (λ (l : List ℕ). l ++ (46 ∷ []) ++ drop (i + 1) s) (a ∙ ap decimal (sym q))
      ∙ ap (λ (l : List ℕ). decimal (m / 10 ^ k) ++ (46 ∷ []) ++ l) (b ∙ ap (places k) j.sum)

-- ---- numbers with k decimals

-- an amount was said, and it stands so
record Signed (p : Option ℕ) (P : ℕ → Type 0) : Type 0 where
  pub amount : ℕ
  pub said : p ≡ Some amount
  pub stands : P amount

-- an amount begins with a digit, and not with a minus
plain_first : (k m : ℕ) → m / 10 ^ k < 2 ^ 64 → get_or (plain k m) 0 0 ≡ 45 → ⊥
unfolding plain
plain_first k m f e =
    let a : ℕ = m / 10 ^ k in
    let x : List ℕ = decimal a in
    let y : List ℕ = places k m in
    let d : digit_run x ≡ length x = digits_decimal a f in
    let r : digit_run (x ++ (46 ∷ []) ++ y) ≡ length x = ap digit_run (append_assoc x (46 ∷ []) y) ∙ point_run x y d in
    let l = digit_low (get_or (x ++ (46 ∷ []) ++ y) 0 0) (run_below is_digit (x ++ (46 ∷ []) ++ y) 0 (omega (arith, decimal_some a f))) in
    omega (arith, l)

-- what was written is read back
signed_back : (k v : ℕ) → zero_of Bonds k ≤ 2 ^ 63 → 0 < v → v < zero_of Bonds k + zero_of Bonds k → fixed_of Bonds k (fixed Bonds k v) ≡ Some v
unfolding fixed_of fixed
signed_back k v z h l =
    elim (dec_lt v (zero_of Bonds k)) [
      | yes p ↦
          let m : ℕ = zero_of Bonds k - v in
          rw (lt-ltb v (zero_of Bonds k) p)
          (ap (below_zero Bonds k) (amount_back 6 k m (omega arith) (omega arith) (omega arith))
          ∙ simp (ne_eqb m 0 (λ e. omega (arith, e, p)))
          (ap Some (omega (arith, p))))
      | no p ↦
          let m : ℕ = v - zero_of Bonds k in
          let big : zero_of Bonds k ≤ v = omega (arith, p) in
          let f : m / 10 ^ k < 2 ^ 64 = omega (arith, div-le_self m (10 ^ k)) in
          rw (le-ltb v (zero_of Bonds k) big)
          (rw (ne_eqb (get_or (plain k m) 0 0) 45 (plain_first k m f))
          (ap (above_zero Bonds k) (amount_back 6 k m (omega arith) (omega arith) (omega arith)) ∙ ap Some (omega arith)))
    ]

unsigned_back : (k v : ℕ) → zero_of Equities k ≤ 2 ^ 63 → 0 < v → v ≤ zero_of Equities k → fixed_of Equities k (fixed Equities k v) ≡ Some v
unfolding fixed_of fixed
unsigned_back k v z h l =
    let m : ℕ = zero_of Equities k - v in
    let f : m / 10 ^ k < 2 ^ 64 = omega (arith, div-le_self m (10 ^ k)) in
    rw (ne_eqb (get_or (plain k m) 0 0) 45 (plain_first k m f))
    (ap (above_zero Equities k) (amount_back 8 k m (omega arith) (omega arith) (omega arith)) ∙ ap Some (omega arith))

below_value : (k : ℕ) (p : Option ℕ) (v : ℕ) → below_zero Bonds k p ≡ Some v → Signed p (λ m. (0 < m) × (zero_of Bonds k - m ≡ v))
below_value k (Some m) v e = pick (eqb m 0) refl e
  where
    pick : (t : Bool) → eqb m 0 ≡ t → cond (not t) (Some (zero_of Bonds k - m)) None ≡ Some v → Signed (Some m) (λ m. (0 < m) × (zero_of Bonds k - m ≡ v))
    pick true q e = let z : ◌≡◌ {A = ℕ} 0 1 = cc in absurd (omega arith)
    pick false q e = record { amount = m; said = refl; stands = (omega (arith, eqb-false m 0 q), cc) }
below_value k None v e = let z : ◌≡◌ {A = ℕ} 0 1 = cc in absurd (omega arith)

-- no price has a minus
below_never : (k : ℕ) (p : Option ℕ) (v : ℕ) → below_zero Equities k p ≡ Some v → ⊥
below_never k (Some m) v e = let z : ◌≡◌ {A = ℕ} 0 1 = cc in omega arith
below_never k None v e = let z : ◌≡◌ {A = ℕ} 0 1 = cc in omega arith

above_value : (q : Instrument) (k : ℕ) (p : Option ℕ) (v : ℕ) → above_zero q k p ≡ Some v → Signed p (λ m. stands_for q (zero_of q k) m ≡ v)
above_value q k (Some m) v e = record { amount = m; said = refl; stands = cc }
above_value q k None v e = let z : ◌≡◌ {A = ℕ} 0 1 = cc in absurd (omega arith)

-- only what would be written is read
module _ (k : ℕ) (s : List ℕ) (v : ℕ) (e : fixed_of Bonds k s ≡ Some v) where
  signed_range : (0 < v) × (v < zero_of Bonds k + zero_of Bonds k)
  unfolding fixed_of
  signed_range =
      split (eqb (get_or s 0 0) 45)
      (λ t. let b = below_value k (amount_of 6 k (drop 1 s)) v (rw t at e) in
      omega (arith, b.stands, amount_small 6 k (drop 1 s) b.amount (omega arith) b.said))
      (λ t. let a = above_value Bonds k (amount_of 6 k s) v (rw t at e) in
      omega (arith, a.stands, amount_small 6 k s a.amount (omega arith) a.said))

  signed_only : s ≡ fixed Bonds k v
  unfolding fixed_of fixed
  signed_only =
      split (eqb (get_or s 0 0) 45)
      (λ t.
      let b = below_value k (amount_of 6 k (drop 1 s)) v (rw t at e) in
      let small = amount_small 6 k (drop 1 s) b.amount (omega arith) b.said in
      let m : zero_of Bonds k - v ≡ b.amount = omega (arith, b.stands, small) in
      let w : s ≡ (45 ∷ []) ++ plain k b.amount = split_at s 0 44 (eqb-true (get_or s 0 0) 45 t) ∙ ap (λ (l : List ℕ). 45 ∷ l) (amount_only 6 k (drop 1 s) b.amount (omega arith) b.said) in
      rw (lt-ltb v (zero_of Bonds k) (omega (arith, b.stands, small)), m) w)
      (λ t.
      let a = above_value Bonds k (amount_of 6 k s) v (rw t at e) in
      let m : v - zero_of Bonds k ≡ a.amount = omega (arith, a.stands) in
      rw (le-ltb v (zero_of Bonds k) (omega (arith, a.stands)), m) (amount_only 6 k s a.amount (omega arith) a.said))

module _ (k : ℕ) (s : List ℕ) (v : ℕ) (e : fixed_of Equities k s ≡ Some v) where
  unsigned_parts : Signed (amount_of 8 k s) (λ m. zero_of Equities k - m ≡ v)
  unfolding fixed_of
  unsigned_parts =
      split (eqb (get_or s 0 0) 45)
      (λ t. absurd (below_never k (amount_of 8 k (drop 1 s)) v (rw t at e)))
      (λ t. above_value Equities k (amount_of 8 k s) v (rw t at e))

  unsigned_range : (0 < v) × (v ≤ zero_of Equities k)
  unsigned_range =
      let a = unsigned_parts in
      omega (arith, a.stands, amount_small 8 k s a.amount (omega arith) a.said)

  unsigned_only : s ≡ fixed Equities k v
  unfolding fixed
  unsigned_only =
      let a = unsigned_parts in
      let m : zero_of Equities k - v ≡ a.amount = omega (arith, a.stands, amount_small 8 k s a.amount (omega arith) a.said) in
      rw m (amount_only 8 k s a.amount (omega arith) a.said)

-- ---- how long these texts are
pub plain_length : (w k m : ℕ) → 0 < w → m < 10 ^ k * 10 ^ w → length (plain k m) ≤ w + 1 + k
unfolding plain
plain_length w k m p h =
    let a : ℕ = m / 10 ^ k in
    omega (
      arith,
      length-append (decimal a ++ (46 ∷ [])) (places k m),
      length-append (decimal a) (46 ∷ []),
      length_places k m,
      decimal_most w a p (whole_small w k m h),
    )

signed_length : (k v : ℕ) → 0 < v → v < zero_of Bonds k + zero_of Bonds k → length (fixed Bonds k v) ≤ 8 + k
unfolding fixed
signed_length k v h l =
    elim (dec_lt v (zero_of Bonds k)) [
      | yes p ↦ rw (lt-ltb v (zero_of Bonds k) p) (omega (arith, plain_length 6 k (zero_of Bonds k - v) (omega arith) (omega arith)))
      | no p ↦ rw (le-ltb v (zero_of Bonds k) (omega (arith, p))) (omega (arith, plain_length 6 k (v - zero_of Bonds k) (omega arith) (omega (arith, p))))
    ]

unsigned_length : (k v : ℕ) → 0 < v → length (fixed Equities k v) ≤ 9 + k
unfolding fixed
unsigned_length k v h = omega (arith, plain_length 8 k (zero_of Equities k - v) (omega arith) (omega (arith, ten_some k)))

-- ---- yields and prices, from 1 to the highest level

-- what was written is read back
pub level_back : (q : Instrument) (v : ℕ) → 0 < v → v ≤ highest q → level_in q (level_text q v) ≡ Some v
unfolding level_in level_text
level_back Bonds v h l = signed_back 3 v (omega arith) h (omega arith)
level_back Equities v h l = unsigned_back 1 v (omega arith) h (omega arith)

-- only what would be written is read, and what is read is in its range
pub level_only : (q : Instrument) (s : List ℕ) (v : ℕ) → level_in q s ≡ Some v → s ≡ level_text q v
unfolding level_in level_text
level_only Bonds s v e = signed_only 3 s v e
level_only Equities s v e = unsigned_only 1 s v e

pub level_within : (q : Instrument) (s : List ℕ) (v : ℕ) → level_in q s ≡ Some v → (0 < v) × (v ≤ highest q)
unfolding level_in
level_within Bonds s v e = let r = signed_range 3 s v e in (omega arith, omega arith)
level_within Equities s v e = let r = unsigned_range 1 s v e in (omega arith, omega arith)

-- at most eleven characters
pub level_length : (q : Instrument) (v : ℕ) → 0 < v → v ≤ highest q → length (level_text q v) ≤ 11
unfolding level_text
level_length Bonds v h l = signed_length 3 v h (omega arith)
level_length Equities v h l = omega (arith, unsigned_length 1 v h)

-- ---- AvgPx, from 1 to the highest mean
pub mean_back : (q : Instrument) (v : ℕ) → 0 < v → v ≤ highest_mean q → mean_in q (mean_text q v) ≡ Some v
unfolding mean_in mean_text
mean_back Bonds v h l = signed_back 6 v (omega arith) h (omega arith)
mean_back Equities v h l = unsigned_back 4 v (omega arith) h (omega arith)

pub mean_only : (q : Instrument) (s : List ℕ) (v : ℕ) → mean_in q s ≡ Some v → s ≡ mean_text q v
unfolding mean_in mean_text
mean_only Bonds s v e = signed_only 6 s v e
mean_only Equities s v e = unsigned_only 4 s v e

pub mean_within : (q : Instrument) (s : List ℕ) (v : ℕ) → mean_in q s ≡ Some v → (0 < v) × (v ≤ highest_mean q)
unfolding mean_in
mean_within Bonds s v e = let r = signed_range 6 s v e in (omega arith, omega arith)
mean_within Equities s v e = let r = unsigned_range 4 s v e in (omega arith, omega arith)

-- at most fourteen characters
pub mean_length : (q : Instrument) (v : ℕ) → 0 < v → v ≤ highest_mean q → length (mean_text q v) ≤ 14
unfolding mean_text
mean_length Bonds v h l = signed_length 6 v h (omega arith)
mean_length Equities v h l = omega (arith, unsigned_length 4 v h)
