-- Worked numbers of documents 01 and 02, by computing: the yield of case 9, the AvgPx of case 11 with its mirror below zero, halves,
-- and the answers that other rules of rounding would give.
use mathlib.Core.Path.{◌≡◌, refl}
use Prim.Native.Nat.{ℕ, ◌+◌, ◌-◌, ◌*◌}
use native.Mathlib.Omega.{arith}
use Rattle.octets.specs.Characters.{bytes}
use Rattle.decimal.specs.declared.Instrument.TheVariants.{Bonds, Equities}
use Rattle.decimal.specs.Writing.{decimal, places, plain, fixed, level_text, mean_text, share_of, mean_of}

-- case 9: the level five thousandths below zero is written -0.005
pub case_nine : level_text Bonds 999999995 ≡ bytes "-0.005"
unfolding decimal places plain fixed level_text mean_text
case_nine = refl

-- zero has no minus: 0.000 and 0.000000
pub zero_yield : level_text Bonds 1000000000 ≡ bytes "0.000"
unfolding decimal places plain fixed level_text mean_text
zero_yield = refl

pub none_executed : (sum : ℕ) → mean_text Bonds (mean_of sum 0) ≡ bytes "0.000000"
unfolding decimal places plain fixed level_text mean_text mean_of
none_executed sum = refl

-- case 11: 1 at 0.100 and 2 at 0.101 is 0.100667
pub case_eleven : mean_text Bonds (mean_of (1 * 1000000100 + 2 * 1000000101) 3) ≡ bytes "0.100667"
unfolding decimal places plain fixed mean_text share_of mean_of
case_eleven = refl

-- its mirror: 1 at -0.100 and 2 at -0.101 is -0.100667
pub case_eleven_below : mean_text Bonds (mean_of (1 * 999999900 + 2 * 999999899) 3) ≡ bytes "-0.100667"
unfolding decimal places plain fixed mean_text share_of mean_of
case_eleven_below = refl

-- a half goes away from zero: 15 at 0.100 and 1 at 0.101 is 0.100063, and with the signs turned round -0.100063
pub half : mean_text Bonds (mean_of (15 * 1000000100 + 1 * 1000000101) 16) ≡ bytes "0.100063"
unfolding decimal places plain fixed mean_text share_of mean_of
half = refl

pub half_below : mean_text Bonds (mean_of (15 * 999999900 + 1 * 999999899) 16) ≡ bytes "-0.100063"
unfolding decimal places plain fixed mean_text share_of mean_of
half_below = refl

-- less than half a millionth below zero is 0.000000
pub nearly_zero : mean_text Bonds (mean_of (999999999 * 1000000000 - 1) 999999999) ≡ bytes "0.000000"
unfolding decimal places plain fixed mean_text share_of mean_of
nearly_zero = refl

-- ---- prices: 100.1 and zero are written so, and 15 at 100.0 and 1 at 100.1 have the average 100.0063, rounded as a price
pub a_price : level_text Equities 999998999 ≡ bytes "100.1"
unfolding decimal places plain fixed level_text
a_price = refl

pub zero_price : level_text Equities 1000000000 ≡ bytes "0.0"
unfolding decimal places plain fixed level_text
zero_price = refl

pub no_price : (sum : ℕ) → mean_text Equities (mean_of sum 0) ≡ bytes "0.0000"
unfolding decimal places plain fixed mean_text mean_of
no_price sum = refl

pub price_half : mean_text Equities (mean_of (15 * 999999000 + 1 * 999998999) 16) ≡ bytes "100.0063"
unfolding decimal places plain fixed mean_text share_of mean_of
price_half = refl

-- ---- wrong answers: each is another rule's mean of the same executions

-- cut: 0.100666, and cut below zero
pub not_cut : mean_of (1 * 1000000100 + 2 * 1000000101) 3 ≡ 1000000100666 → ⊥
unfolding share_of mean_of
not_cut e = omega (arith, e)

pub not_cut_below : mean_of (1 * 999999900 + 2 * 999999899) 3 ≡ 999999899334 → ⊥
unfolding share_of mean_of
not_cut_below e = omega (arith, e)

-- halves toward zero: 0.100062
pub not_half_down : mean_of (15 * 1000000100 + 1 * 1000000101) 16 ≡ 1000000100062 → ⊥
unfolding share_of mean_of
not_half_down e = omega (arith, e)

-- and of prices: 100.0062
pub not_price_half_down : mean_of (15 * 999999000 + 1 * 999998999) 16 ≡ 999998999938 → ⊥
unfolding share_of mean_of
not_price_half_down e = omega (arith, e)

-- the mirror rounded the other way, its half going up toward zero: -0.100062
pub not_half_up_below : mean_of (15 * 999999900 + 1 * 999999899) 16 ≡ 999999899938 → ⊥
unfolding share_of mean_of
not_half_up_below e = omega (arith, e)
