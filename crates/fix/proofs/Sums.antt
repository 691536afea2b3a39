-- Sums in one byte: a sum that goes on byte by byte and part by part, and the CheckSum.
use Rattle.std.proofs.Common.{◌≡◌, ℕ, zero, suc, ◌+◌, ◌-◌, ◌%◌, ◌^◌, ◌<◌, ◌≤◌, List, [], ◌∷◌, length, get_or, take, drop, refl, ◌∙◌, add-one, arith, length-drop, take_all, drop-cons, drop-drop}
use Rattle.fix.specs.Garbled.{sum_of, check_sum}
use Rattle.fix.specs.Steps.{Carried}

pub carried_none : (s : List ℕ) (a : ℕ) → Carried s a a 0
carried_none s a = record { within = omega arith; sums = refl }

pub carried_byte : (s : List ℕ) (a b k c : ℕ) → Carried s a b k → k < length s → c ≡ (b + get_or s k 0) % 2 ^ 8 → Carried s a c (k + 1)
unfolding sum_of
carried_byte s a b k c w h e =
    let t : sum_of (drop k s) ≡ get_or s k 0 + sum_of (drop (k + 1) s) = rw (drop-cons s k 0, add-one) in
    record { within = omega arith; sums = omega (arith, w.sums) }

pub carried_then : (s : List ℕ) (a b c k j n : ℕ) → Carried s a b k → Carried (drop k s) b c j → n ≡ k + j → Carried s a c n
carried_then s a b c k j n w v e =
    let l : j ≤ length s - k = rw length-drop at v.within in
    let d : drop j (drop k s) ≡ drop n s = drop-drop j k s ∙ rw e in
    let y : (c + sum_of (drop n s)) % 256 ≡ (b + sum_of (drop k s)) % 256 = rw d at v.sums in
    record { within = omega (arith, w.within); sums = y ∙ w.sums }

-- the sum of the bytes before a place is the CheckSum of that part
sum_cut : (s : List ℕ) (k : ℕ) → sum_of s ≡ sum_of (take k s) + sum_of (drop k s)
unfolding sum_of
sum_cut s zero = omega arith
sum_cut [] (suc k) = omega arith
sum_cut (b ∷ s) (suc k) = omega (arith, sum_cut s k)

pub carried_sum : (s : List ℕ) (b k : ℕ) → b < 256 → Carried s 0 b k → b ≡ check_sum (take k s)
unfolding check_sum
carried_sum s b k h w = omega (arith, sum_cut s k, w.sums)

-- ---- summing all bytes: those before i have the sum
pub record Summing (s : List ℕ) (sum i : ℕ) : Type 0 where
  pub small : sum < 256
  pub sums : Carried s 0 sum i

pub sum_start : (s : List ℕ) → Summing s 0 0
sum_start s = record { small = omega arith; sums = carried_none s 0 }

pub sum_more : (s : List ℕ) (sum i r : ℕ) → Summing s sum i → i < length s → r ≡ (sum + get_or s i 0) % 2 ^ 8 → Summing s r (i + 1)
sum_more s sum i r inv h e = record { small = omega arith; sums = carried_byte s 0 sum i r inv.sums h e }

pub sum_end : (s : List ℕ) (sum i : ℕ) → Summing s sum i → length s ≤ i → sum ≡ check_sum s
sum_end s sum i inv l = rw (take_all i s l) at (carried_sum s sum i inv.small inv.sums)
