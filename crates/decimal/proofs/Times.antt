-- What is so of every time, so that nobody has to look at the definition: it has 17 to 21 bytes, and each can be shown, 20 to 7E
-- hex.
use Prim.Native.Nat.{ℕ, ◌+◌, ◌-◌, ◌*◌, ◌≤◌, ◌<◌}
use mathlib.Core.Path.{◌≡◌, refl, sym, ◌∙◌}
use mathlib.Core.Bool.{Bool, true, false, not, ◌&&◌, ◌||◌}
use mathlib.Core.List.{List, [], ◌∷◌, ◌++◌}
use native.Mathlib.Numerals.{add-one}
use native.Mathlib.Omega.{arith}
use lib.Dec.{ltb, leb, eqb}
use lib.ListN.{length, get_or}
use borrow.Author.Tests.{eqb-true, eqb-false, ltb-true, lt-ltb, le-ltb, leb-true, le-leb, lt-leb, ne_eqb, not-false}
use Rattle.octets.specs.Tests.{all_up_to}
use Rattle.octets.proofs.Bools.{split, both_i, both_l, both_r, or_r}
use Rattle.octets.proofs.Ranges.{all_at}
use Rattle.decimal.specs.Reading.{is_digit, digit_of, is_time_length, two_at, millis_shaped, time_shaped, time_ranged, is_time}
use Rattle.decimal.proofs.Numbers.{digit_low, digit_high, digit_is, digit_not}

-- ---- the tests that a time passes, one by one
record Tests (s : List ℕ) : Type 0 where
  long : is_time_length (length s) ≡ true
  century : ltb (two_at s 0) 100 ≡ true
  year : ltb (two_at s 2) 100 ≡ true
  month : ltb (two_at s 4) 100 ≡ true
  day : ltb (two_at s 6) 100 ≡ true
  hyphen : eqb (get_or s 8 0) 45 ≡ true
  hour : ltb (two_at s 9) 100 ≡ true
  colon : eqb (get_or s 11 0) 58 ≡ true
  minute : ltb (two_at s 12) 100 ≡ true
  colon2 : eqb (get_or s 14 0) 58 ≡ true
  second : ltb (two_at s 15) 100 ≡ true
  millis : millis_shaped s ≡ true

tests : (s : List ℕ) → time_shaped s ≡ true → Tests s
unfolding time_shaped
tests s e11 =
    let p0 = is_time_length (length s) in
    let p1 = p0 && ltb (two_at s 0) 100 in
    let p2 = p1 && ltb (two_at s 2) 100 in
    let p3 = p2 && ltb (two_at s 4) 100 in
    let p4 = p3 && ltb (two_at s 6) 100 in
    let p5 = p4 && eqb (get_or s 8 0) 45 in
    let p6 = p5 && ltb (two_at s 9) 100 in
    let p7 = p6 && eqb (get_or s 11 0) 58 in
    let p8 = p7 && ltb (two_at s 12) 100 in
    let p9 = p8 && eqb (get_or s 14 0) 58 in
    let p10 = p9 && ltb (two_at s 15) 100 in
    let e10 = both_l p10 (millis_shaped s) e11 in
    let e9 = both_l p9 (ltb (two_at s 15) 100) e10 in
    let e8 = both_l p8 (eqb (get_or s 14 0) 58) e9 in
    let e7 = both_l p7 (ltb (two_at s 12) 100) e8 in
    let e6 = both_l p6 (eqb (get_or s 11 0) 58) e7 in
    let e5 = both_l p5 (ltb (two_at s 9) 100) e6 in
    let e4 = both_l p4 (eqb (get_or s 8 0) 45) e5 in
    let e3 = both_l p3 (ltb (two_at s 6) 100) e4 in
    let e2 = both_l p2 (ltb (two_at s 4) 100) e3 in
    let e1 = both_l p1 (ltb (two_at s 2) 100) e2 in
    record {
      long = both_l p0 (ltb (two_at s 0) 100) e1;
      century = both_r p0 (ltb (two_at s 0) 100) e1;
      year = both_r p1 (ltb (two_at s 2) 100) e2;
      month = both_r p2 (ltb (two_at s 4) 100) e3;
      day = both_r p3 (ltb (two_at s 6) 100) e4;
      hyphen = both_r p4 (eqb (get_or s 8 0) 45) e5;
      hour = both_r p5 (ltb (two_at s 9) 100) e6;
      colon = both_r p6 (eqb (get_or s 11 0) 58) e7;
      minute = both_r p7 (ltb (two_at s 12) 100) e8;
      colon2 = both_r p8 (eqb (get_or s 14 0) 58) e9;
      second = both_r p9 (ltb (two_at s 15) 100) e10;
      millis = both_r p10 (millis_shaped s) e11;
    }

-- what the shape alone says
module _ (s : List ℕ) (h : time_shaped s ≡ true) where
  shaped_long : 17 ≤ length s
  unfolding is_time_length
  shaped_long =
      split (eqb (length s) 17) (λ e. omega (arith, eqb-true (length s) 17 e))
      (λ e. omega (arith, eqb-true (length s) 21 (or_r (eqb (length s) 17) (eqb (length s) 21) (tests s h).long e)))

  pub shaped_far : (i : ℕ) → i ≤ 15 → i + 1 < length s
  shaped_far i l = omega (arith, shaped_long)

  pub shaped_month : two_at s 4 < 100
  shaped_month = ltb-true (two_at s 4) 100 (tests s h).month

  pub shaped_day : two_at s 6 < 100
  shaped_day = ltb-true (two_at s 6) 100 (tests s h).day

  pub shaped_hour : two_at s 9 < 100
  shaped_hour = ltb-true (two_at s 9) 100 (tests s h).hour

  pub shaped_minute : two_at s 12 < 100
  shaped_minute = ltb-true (two_at s 12) 100 (tests s h).minute

  pub shaped_second : two_at s 15 < 100
  shaped_second = ltb-true (two_at s 15) 100 (tests s h).second

-- ---- how long a time is
module _ (s : List ℕ) (h : is_time s ≡ true) where
  time_tests : Tests s
  unfolding is_time
  time_tests = tests s (both_l (time_shaped s) (time_ranged s) h)

  pub time_lengths : (eqb (length s) 17 || eqb (length s) 21) ≡ true
  unfolding is_time_length
  time_lengths = time_tests.long

  pub time_long : 17 ≤ length s
  time_long =
      split (eqb (length s) 17) (λ e. omega (arith, eqb-true (length s) 17 e))
      (λ e. omega (arith, eqb-true (length s) 21 (or_r (eqb (length s) 17) (eqb (length s) 21) time_lengths e)))

  pub time_short : length s ≤ 21
  time_short =
      split (eqb (length s) 17) (λ e. omega (arith, eqb-true (length s) 17 e))
      (λ e. omega (arith, eqb-true (length s) 21 (or_r (eqb (length s) 17) (eqb (length s) 21) time_lengths e)))

-- ---- each byte of it can be shown
abbrev is_shown : ℕ → Bool
is_shown b = leb 32 b && leb b 126

shown : (b : ℕ) → 32 ≤ b → b ≤ 126 → is_shown b ≡ true
shown b l h = both_i (le-leb 32 b l) (le-leb b 126 h)

digit_shown : (b : ℕ) → is_digit b ≡ true → is_shown b ≡ true
digit_shown b d = shown b (omega (arith, digit_low b d)) (omega (arith, digit_high b d))

mark_shown : (b m : ℕ) → 32 ≤ m → m ≤ 126 → eqb b m ≡ true → is_shown b ≡ true
mark_shown b m l h e = shown b (omega (arith, eqb-true b m e)) (omega (arith, eqb-true b m e))

-- both digits of two
few_digit : (b : ℕ) → digit_of b < 100 → is_digit b ≡ true
few_digit b l = split (is_digit b) (λ e. e) (λ e. absurd (omega (arith, digit_not b e)))

module _ (s : List ℕ) (i : ℕ) (t : ltb (two_at s i) 100 ≡ true) where
  two_first : is_shown (get_or s i 0) ≡ true
  unfolding two_at
  two_first =
      let b = get_or s i 0 in
      digit_shown b (few_digit b (omega (arith, ltb-true (two_at s i) 100 t)))

  two_second : is_shown (get_or s (i + 1) 0) ≡ true
  unfolding two_at
  two_second =
      let b = get_or s (i + 1) 0 in
      digit_shown b (few_digit b (omega (arith, ltb-true (two_at s i) 100 t)))

module _ (s : List ℕ) (t : Tests s) where
  -- up to the seconds
  seconds_shown : all_up_to (λ i. is_shown (get_or s i 0)) 17 ≡ true
  unfolding all_up_to
  seconds_shown =
      (both_i (both_i (both_i (both_i (both_i (both_i (both_i (both_i
      (both_i (both_i (both_i (both_i (both_i (both_i (both_i (both_i (both_i refl
      (two_first s 0 t.century)) (two_second s 0 t.century)) (two_first s 2 t.year)) (two_second s 2 t.year))
      (two_first s 4 t.month)) (two_second s 4 t.month)) (two_first s 6 t.day)) (two_second s 6 t.day))
      (mark_shown (get_or s 8 0) 45 (omega arith) (omega arith) t.hyphen))
      (two_first s 9 t.hour)) (two_second s 9 t.hour))
      (mark_shown (get_or s 11 0) 58 (omega arith) (omega arith) t.colon))
      (two_first s 12 t.minute)) (two_second s 12 t.minute))
      (mark_shown (get_or s 14 0) 58 (omega arith) (omega arith) t.colon2))
      (two_first s 15 t.second)) (two_second s 15 t.second))

  -- and behind them
  millis_shown : (eqb (get_or s 17 0) 46 && ltb (two_at s 18) 100 && is_digit (get_or s 20 0)) ≡ true → all_up_to (λ i. is_shown (get_or s i 0)) 21 ≡ true
  unfolding all_up_to
  millis_shown m =
      let point = eqb (get_or s 17 0) 46 in
      let two = ltb (two_at s 18) 100 in
      let front = both_l (point && two) (is_digit (get_or s 20 0)) m in
      let digits = both_r point two front in
      both_i (both_i (both_i (both_i seconds_shown
      (mark_shown (get_or s 17 0) 46 (omega arith) (omega arith) (both_l point two front)))
      (two_first s 18 digits)) (two_second s 18 digits))
      (digit_shown (get_or s 20 0) (both_r (point && two) (is_digit (get_or s 20 0)) m))

  all_shown : all_up_to (λ i. is_shown (get_or s i 0)) (length s) ≡ true
  unfolding is_time_length
  all_shown =
      split (eqb (length s) 17)
      (λ e. rw (eqb-true (length s) 17 e) seconds_shown)
      (λ e.
      let l = eqb-true (length s) 21 (or_r (eqb (length s) 17) (eqb (length s) 21) t.long e) in
      rw l (millis_shown (or_r (eqb (length s) 17) (eqb (get_or s 17 0) 46 && ltb (two_at s 18) 100 && is_digit (get_or s 20 0)) t.millis e)))

module _ (s : List ℕ) (h : is_time s ≡ true) (i : ℕ) (l : i < length s) where
  byte_shown : is_shown (get_or s i 0) ≡ true
  byte_shown = all_at (λ j. is_shown (get_or s j 0)) (length s) (all_shown s (time_tests s h)) i l

  pub time_low : 32 ≤ get_or s i 0
  time_low = leb-true 32 (get_or s i 0) (both_l (leb 32 (get_or s i 0)) (leb (get_or s i 0) 126) byte_shown)

  pub time_high : get_or s i 0 ≤ 126
  time_high = leb-true (get_or s i 0) 126 (both_r (leb 32 (get_or s i 0)) (leb (get_or s i 0) 126) byte_shown)

-- ---- the shape, byte by byte: each is between the least and the most that may stand at its place

-- both digits of two, and the number that they say
two_digits : (s : List ℕ) (i : ℕ) → ltb (two_at s i) 100 ≡ (is_digit (get_or s i 0) && is_digit (get_or s (i + 1) 0))
unfolding two_at
two_digits s i =
    let a = get_or s i 0 in
    let b = get_or s (i + 1) 0 in
    split (is_digit a)
    (λ x.
    split (is_digit b)
    (λ y. rw (x, y) (lt-ltb (digit_of a * 10 + digit_of b) 100 (omega (arith, digit_is a x, digit_high a x, digit_is b y, digit_high b y))))
    (λ y. rw (x, y) (le-ltb (digit_of a * 10 + digit_of b) 100 (omega (arith, digit_not b y)))))
    (λ x. rw x (le-ltb (digit_of a * 10 + digit_of b) 100 (omega (arith, digit_not a x))))

module _ (s : List ℕ) (i a b : ℕ) (l : two_at s i < 100) (e : a ≡ get_or s i 0) (f : b ≡ get_or s (i + 1) 0) where
  pub two_least : 528 ≤ a * 10 + b
  unfolding two_at
  two_least =
      let x = few_digit (get_or s i 0) (omega arith) in
      let y = few_digit (get_or s (i + 1) 0) (omega arith) in
      omega (arith, digit_low (get_or s i 0) x, digit_low (get_or s (i + 1) 0) y)

  pub two_says : a * 10 + b - 528 ≡ two_at s i
  unfolding two_at
  two_says =
      let x = few_digit (get_or s i 0) (omega arith) in
      let y = few_digit (get_or s (i + 1) 0) (omega arith) in
      omega (arith, digit_low (get_or s i 0) x, digit_is (get_or s i 0) x, digit_low (get_or s (i + 1) 0) y, digit_is (get_or s (i + 1) 0) y)

mark_between : (x m : ℕ) → eqb x m ≡ (leb m x && leb x m)
mark_between x m =
    split (eqb x m)
    (λ e. rw e (sym (both_i (le-leb m x (omega (arith, eqb-true x m e))) (le-leb x m (omega (arith, eqb-true x m e))))))
    (λ e.
    split (leb m x)
    (λ y. rw (e, y) (sym (lt-leb x m (omega (arith, eqb-false x m e, leb-true m x y)))))
    (λ y. rw (e, y)))

and_more : (p x y : Bool) → (p && (x && y)) ≡ ((p && x) && y)
and_more true x y = refl
and_more false x y = refl

and_true : (p q : Bool) → q ≡ true → (p && q) ≡ p
and_true true q e = e
and_true false q e = refl

and_four : (p m a b d : Bool) → (p && ((m && (a && b)) && d)) ≡ ((((p && m) && a) && b) && d)
and_four true true a b d = refl
and_four true false a b d = refl
and_four false m a b d = refl

-- a loop that gathers a test at every number below n and has gathered i of them
pub record Gathered (f : ℕ → Bool) (n : ℕ) (good : Bool) (i : ℕ) : Type 0 where
  pub within : i ≤ n
  pub so_far : good ≡ all_up_to f i

pub gathered_none : {f : ℕ → Bool} {n : ℕ} → Gathered f n true 0
unfolding all_up_to
gathered_none = record { within = omega arith; so_far = refl }

pub gathered_more : {f : ℕ → Bool} {n : ℕ} {good : Bool} {i : ℕ} → Gathered f n good i → i < n → Gathered f n (good && f i) (i + 1)
unfolding all_up_to
gathered_more {f} {n} {good} {i} g l = record { within = omega arith; so_far = rw (add-one i, g.so_far) }

pub gathered_end : {f : ℕ → Bool} {n : ℕ} {good : Bool} {i : ℕ} → Gathered f n good i → n ≤ i → good ≡ all_up_to f n
gathered_end {f} {n} {good} {i} g l =
    let e : i ≡ n = omega (arith, g.within) in
    rw e at g.so_far

-- 00000000-00:00:00.000 and 99999999-99:99:99.999, without milliseconds and with them
abbrev least : List ℕ
least = 48 ∷ 48 ∷ 48 ∷ 48 ∷ 48 ∷ 48 ∷ 48 ∷ 48 ∷ 45 ∷ 48 ∷ 48 ∷ 58 ∷ 48 ∷ 48 ∷ 58 ∷ 48 ∷ 48 ∷ []

abbrev most : List ℕ
most = 57 ∷ 57 ∷ 57 ∷ 57 ∷ 57 ∷ 57 ∷ 57 ∷ 57 ∷ 45 ∷ 57 ∷ 57 ∷ 58 ∷ 57 ∷ 57 ∷ 58 ∷ 57 ∷ 57 ∷ []

abbrev least_millis : List ℕ
least_millis = least ++ (46 ∷ 48 ∷ 48 ∷ 48 ∷ [])

abbrev most_millis : List ℕ
most_millis = most ++ (46 ∷ 57 ∷ 57 ∷ 57 ∷ [])

module _ (s : List ℕ) where
  two : (p q : Bool) (i : ℕ) → p ≡ q → (p && ltb (two_at s i) 100) ≡ ((q && is_digit (get_or s i 0)) && is_digit (get_or s (i + 1) 0))
  two p q i e = rw (e, two_digits s i) (and_more q (is_digit (get_or s i 0)) (is_digit (get_or s (i + 1) 0)))

  mark : (p q : Bool) (i m : ℕ) → p ≡ q → (p && eqb (get_or s i 0) m) ≡ (q && (leb m (get_or s i 0) && leb (get_or s i 0) m))
  mark p q i m e = rw (e, mark_between (get_or s i 0) m)

  -- up to the seconds
  seconds : (p : Bool) → p ≡ true
      → (p && ltb (two_at s 0) 100 && ltb (two_at s 2) 100 && ltb (two_at s 4) 100 && ltb (two_at s 6) 100 && eqb (get_or s 8 0) 45
      && ltb (two_at s 9) 100 && eqb (get_or s 11 0) 58 && ltb (two_at s 12) 100 && eqb (get_or s 14 0) 58 && ltb (two_at s 15) 100)
      ≡ all_up_to (λ k. leb (get_or least k 0) (get_or s k 0) && leb (get_or s k 0) (get_or most k 0)) 17
  unfolding all_up_to is_digit
  seconds p e =
      two _ _ 15 (mark _ _ 14 58 (two _ _ 12 (mark _ _ 11 58 (two _ _ 9 (mark _ _ 8 45 (two _ _ 6 (two _ _ 4 (two _ _ 2 (two _ _ 0 e)))))))))

  -- and behind them
  millis : (p q : Bool) → p ≡ q → length s ≡ 21
      → (p && millis_shaped s)
      ≡ ((((q && (leb 46 (get_or s 17 0) && leb (get_or s 17 0) 46)) && is_digit (get_or s 18 0)) && is_digit (get_or s 19 0)) && is_digit (get_or s 20 0))
  millis p q e l =
      rw (e, l, two_digits s 18, mark_between (get_or s 17 0) 46)
      (and_four q (leb 46 (get_or s 17 0) && leb (get_or s 17 0) 46) (is_digit (get_or s 18 0)) (is_digit (get_or s 19 0)) (is_digit (get_or s 20 0)))

  pub shape_plain : length s ≡ 17 → all_up_to (λ k. leb (get_or least k 0) (get_or s k 0) && leb (get_or s k 0) (get_or most k 0)) 17 ≡ time_shaped s
  unfolding time_shaped is_time_length
  shape_plain l = sym (and_true _ (millis_shaped s) (rw l) ∙ seconds (eqb (length s) 17 || eqb (length s) 21) (rw l))

  pub shape_millis : length s ≡ 21
      → all_up_to (λ k. leb (get_or least_millis k 0) (get_or s k 0) && leb (get_or s k 0) (get_or most_millis k 0)) 21 ≡ time_shaped s
  unfolding time_shaped is_time_length all_up_to is_digit
  shape_millis l = sym (millis _ _ (seconds (eqb (length s) 17 || eqb (length s) 21) (rw l)) l)

  pub shape_none : (length s ≡ 17 → ⊥) → (length s ≡ 21 → ⊥) → false ≡ time_shaped s
  unfolding time_shaped is_time_length
  shape_none l m = rw (ne_eqb (length s) 17 l, ne_eqb (length s) 21 m)

-- ---- a time, by its shape and then by its ranges
module _ (s : List ℕ) (x : Bool) (e : x ≡ time_shaped s) where
  pub shape_not : x ≡ false → false ≡ is_time s
  unfolding is_time
  shape_not h = rw (← e, h)

  pub shape_yes : not x ≡ false → time_shaped s ≡ true
  shape_yes h = sym e ∙ not-false x h

  pub range_is : x ≡ true → (r : Bool) → r ≡ time_ranged s → r ≡ is_time s
  unfolding is_time
  range_is h r q = rw (← e, h) q
