-- Digits written and digits read are the same digits: what a number's text says, and the text of what digits say.
use Prim.Native.Nat.{ℕ, zero, suc, ◌+◌, ◌-◌, ◌*◌, ◌/◌, ◌%◌, ◌^◌, ◌≤◌, ◌<◌}
use mathlib.Core.Path.{◌≡◌, refl, sym, ap, ◌∙◌}
use mathlib.Core.List.{List, [], ◌∷◌, ◌++◌, append_assoc, append-nil}
use mathlib.Core.Bool.{true}
use native.Mathlib.Omega.{arith}
use native.Mathlib.Nat.{pow-succ', add-mul, mul_assoc, add-zero, add-suc, suc-add, add_assoc, div-div-eq-div-mul, mul-one}
use native.Mathlib.Decide.{dec_lt}
use lib.ListN.{length, length-append}
use borrow.Author.Tests.{le-leb}
use Rattle.decimal.specs.Reading.{is_digit, run_of, digit_run, number, number_after}
use Rattle.decimal.specs.Writing.{decimal, places}
use Rattle.decimal.proofs.Scans.{passed}
use Rattle.decimal.proofs.Numbers.{digit_low, digit_high}
use Rattle.decimal.proofs.Digits.{decimal_small, decimal_more}

-- ---- lists of digits
pub digit_byte : (d : ℕ) → d < 10 → is_digit (48 + d) ≡ true
unfolding is_digit
digit_byte d h = simp (le-leb 48 (48 + d) (omega arith), le-leb (48 + d) 57 (omega arith))

pub digits_head : (b : ℕ) (s : List ℕ) → digit_run (b ∷ s) ≡ suc (length s) → is_digit b ≡ true
unfolding run_of
digits_head b s e = passed (is_digit b) (suc (run_of is_digit s)) 0 (omega arith)

pub digits_tail : (b : ℕ) (s : List ℕ) → digit_run (b ∷ s) ≡ suc (length s) → digit_run s ≡ length s
unfolding run_of
digits_tail b s e = let y = digits_head b s e in let z : suc (run_of is_digit s) ≡ suc (length s) = rw y at e in omega arith

pub digits_cons : (b : ℕ) (s : List ℕ) → is_digit b ≡ true → digit_run (b ∷ s) ≡ suc (digit_run s)
unfolding run_of
digits_cons b s e = rw e

-- digits in front of a text
pub run_append : (s t : List ℕ) → digit_run s ≡ length s → digit_run (s ++ t) ≡ length s + digit_run t
run_append [] t e = omega arith
run_append (b ∷ s) t e =
    let ih = run_append s t (digits_tail b s e) in
    omega (arith, digits_cons b (s ++ t) (digits_head b s e))

pub digits_append : (s t : List ℕ) → digit_run s ≡ length s → digit_run t ≡ length t → digit_run (s ++ t) ≡ length (s ++ t)
digits_append s t p q = omega (arith, run_append s t p, length-append s t)

digits_one : (d : ℕ) → d < 10 → digit_run ((48 + d) ∷ []) ≡ 1
unfolding run_of
digits_one d h = rw (digit_byte d h)

-- ---- what digits say, one after another
pub after_append : (n : ℕ) (s t : List ℕ) → number_after n (s ++ t) ≡ number_after (number_after n s) t
unfolding number_after
after_append n [] t = refl
after_append n (b ∷ s) t = after_append (n * 10 + (b - 48)) s t

after_one : (n d : ℕ) → number_after n ((48 + d) ∷ []) ≡ n * 10 + d
unfolding number_after
after_one n d = omega arith

pub after_grows : (n : ℕ) (s : List ℕ) → n ≤ number_after n s
unfolding number_after
after_grows n [] = omega arith
after_grows n (b ∷ s) = omega (arith, after_grows (n * 10 + (b - 48)) s)

pub after_shift : (n : ℕ) (s : List ℕ) → number_after n s ≡ n * 10 ^ length s + number s
unfolding number_after
after_shift n [] = omega (arith, mul-one n)
after_shift n (b ∷ s) =
    let d : ℕ = b - 48 in
    let p : ℕ = 10 ^ length s in
    let z : number_after (0 * 10 + d) s ≡ d * p + number s = ap (λ (k : ℕ). number_after k s) (omega arith) ∙ after_shift d s in
    let m : (n * 10 + d) * p ≡ n * (10 * p) + d * p = add-mul (n * 10) d p ∙ ap (λ (k : ℕ). k + d * p) (mul_assoc n 10 p) in
    let q : 10 ^ suc (length s) ≡ 10 * p = pow-succ' 10 (length s) in
    after_shift (n * 10 + d) s ∙ ap (λ (k : ℕ). k + number s) m ∙ add_assoc (n * (10 * p)) (d * p) (number s) ∙ rw (q, z)

-- ---- what was written is said again
pub said_again : (k n : ℕ) (t : List ℕ) → n < 10 ^ suc k → n < 2 ^ 64 → number (decimal n ++ t) ≡ number_after n t
said_again zero n t h f = rw (decimal_small n h) (after_append 0 ((48 + n) ∷ []) t ∙ ap (λ (k : ℕ). number_after k t) (after_one 0 n ∙ omega arith))
said_again (suc k) n t h f =
    elim (dec_lt n 10) [
      | yes p ↦ rw (decimal_small n p) (after_append 0 ((48 + n) ∷ []) t ∙ ap (λ (k : ℕ). number_after k t) (after_one 0 n ∙ omega arith))
      | no p ↦
          let big : 10 ≤ n = omega (arith, p) in
          let d : ℕ = n % 10 in
          ap (λ (l : List ℕ). number (l ++ t)) (decimal_more n big f)
          ∙ ap number (append_assoc (decimal (n / 10)) ((48 + d) ∷ []) t)
          ∙ said_again k (n / 10) ((48 + d) ∷ t) (omega (arith, h)) (omega (arith, f))
          ∙ after_append (n / 10) ((48 + d) ∷ []) t
          ∙ ap (λ (k : ℕ). number_after k t) (after_one (n / 10) d ∙ omega arith)
    ]

pub said_decimal : (n : ℕ) → n < 2 ^ 64 → number (decimal n) ≡ n
unfolding number_after
said_decimal n f = ap number (sym (append-nil (decimal n))) ∙ said_again 19 n [] (omega arith) f

digits_decimal_in : (k n : ℕ) → n < 10 ^ suc k → n < 2 ^ 64 → digit_run (decimal n) ≡ length (decimal n)
digits_decimal_in zero n h f = rw (decimal_small n h) (digits_one n h)
digits_decimal_in (suc k) n h f =
    elim (dec_lt n 10) [
      | yes p ↦ rw (decimal_small n p) (digits_one n p)
      | no p ↦
          rw (decimal_more n (omega (arith, p)) f)
          (digits_append (decimal (n / 10)) ((48 + n % 10) ∷ []) (digits_decimal_in k (n / 10) (omega (arith, h)) (omega (arith, f)))
          (digits_one (n % 10) (omega arith)))
    ]

pub digits_decimal : (n : ℕ) → n < 2 ^ 64 → digit_run (decimal n) ≡ length (decimal n)
digits_decimal n f = digits_decimal_in 19 n (omega arith) f

pub digits_places : (k n : ℕ) → digit_run (places k n) ≡ length (places k n)
unfolding places run_of
digits_places zero n = refl
digits_places (suc k) n = digits_append (places k (n / 10)) ((48 + n % 10) ∷ []) (digits_places k (n / 10)) (digits_one (n % 10) (omega arith))

-- the whole part and the decimals make up the amount
pub said_places : (k m : ℕ) → m / 10 ^ k * 10 ^ k + number (places k m) ≡ m
unfolding places number_after
said_places zero m = omega arith
said_places (suc k) m =
    let q : ℕ = m / 10 in
    let p : ℕ = 10 ^ k in
    let last : number (places k q ++ ((48 + m % 10) ∷ [])) ≡ number (places k q) * 10 + m % 10 =
    after_append 0 (places k q) ((48 + m % 10) ∷ []) ∙ after_one (number (places k q)) (m % 10) in
    let cut : m / (10 * p) ≡ q / p = sym (div-div-eq-div-mul m 10 p) in
    let w : q / p * (10 * p) ≡ q / p * p * 10 = omega arith in
    let ih = said_places k q in
    rw (pow-succ' 10 k, cut, last, w) (omega arith)

-- ---- what digits say is written with the same digits
one_more_lem : (j n b : ℕ) → 48 ≤ b → b ≤ 57 → places (suc j) (n * 10 + (b - 48)) ≡ places j n ++ (b ∷ [])
unfolding places
one_more_lem j n b l h =
    let q : (n * 10 + (b - 48)) / 10 ≡ n = omega arith in
    let r : 48 + (n * 10 + (b - 48)) % 10 ≡ b = omega arith in
    rw (q, r)

pub written_places : (j n : ℕ) (s : List ℕ) → digit_run s ≡ length s → places (j + length s) (number_after n s) ≡ places j n ++ s
unfolding number_after
written_places j n [] e = ap (λ (k : ℕ). places k n) (add-zero j) ∙ sym (append-nil (places j n))
written_places j n (b ∷ s) e =
    let d = digits_head b s e in
    let step : places (suc j) (n * 10 + (b - 48)) ≡ places j n ++ (b ∷ []) = one_more_lem j n b (digit_low b d) (digit_high b d) in
    ap (λ (k : ℕ). places k (number_after (n * 10 + (b - 48)) s)) (add-suc j (length s) ∙ sym (suc-add j (length s)))
    ∙ written_places (suc j) (n * 10 + (b - 48)) s (digits_tail b s e)
    ∙ ap (λ (l : List ℕ). l ++ s) step
    ∙ append_assoc (places j n) (b ∷ []) s

pub written_decimal : (n : ℕ) (s : List ℕ) → 1 ≤ n → digit_run s ≡ length s → number_after n s < 2 ^ 64 → decimal (number_after n s) ≡ decimal n ++ s
unfolding number_after
written_decimal n [] h e f = sym (append-nil (decimal n))
written_decimal n (b ∷ s) h e f =
    let d = digits_head b s e in
    let low = digit_low b d in
    let high = digit_high b d in
    let m : ℕ = n * 10 + (b - 48) in
    let q : m / 10 ≡ n = omega arith in
    let r : 48 + m % 10 ≡ b = omega arith in
    let step : decimal m ≡ decimal n ++ (b ∷ []) = decimal_more m (omega arith) (omega (arith, after_grows m s)) ∙ rw (q, r) in
    written_decimal m s (omega arith) (digits_tail b s e) f ∙ ap (λ (l : List ℕ). l ++ s) step ∙ append_assoc (decimal n) (b ∷ []) s
