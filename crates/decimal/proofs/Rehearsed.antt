-- What the definitions say of texts that the rehearsed books and the limits of document 01 name. Each is computed.
use mathlib.Core.Path.{◌≡◌, refl}
use mathlib.Core.Bool.{true, false}
use Prim.Native.Nat.{ℕ}
use Rattle.std.specs.Prelude.{Some, None}
use Rattle.octets.specs.Characters.{bytes}
use Rattle.decimal.specs.declared.Instrument.TheVariants.{Bonds, Equities}
use Rattle.decimal.specs.Reading.{is_digit, digit_of, run_of, number_after, is_number, num_of, fraction_of, size_of, level_of, is_time_length, two_at, time_shaped, time_ranged, is_time}

opened : ℕ
unfolding is_digit digit_of run_of number_after is_number num_of fraction_of size_of level_of is_time_length two_at time_shaped time_ranged is_time
opened = 0

-- -0.005 (case 9) is five thousandths below the level of zero
pub case_9 : level_of Bonds (bytes "-0.005") ≡ Some 999999995
unfolding opened
case_9 = refl

-- -0 and -0.000 are zero
pub minus_zero : level_of Bonds (bytes "-0") ≡ Some 1000000000
unfolding opened
minus_zero = refl

pub minus_zeros : level_of Bonds (bytes "-0.000") ≡ Some 1000000000
unfolding opened
minus_zeros = refl

-- "1." and four decimals are no yield
pub bare_point : level_of Bonds (bytes "1.") ≡ None
unfolding opened
bare_point = refl

pub four_decimals : level_of Bonds (bytes "0.0000") ≡ None
unfolding opened
four_decimals = refl

-- 0.5 is five hundred thousandths
pub one_decimal : level_of Bonds (bytes "0.5") ≡ Some 1000000500
unfolding opened
one_decimal = refl

-- prices: 100.1, the highest, and zero; no minus, no second decimal, no ninth whole digit
pub price : level_of Equities (bytes "100.1") ≡ Some 999998999
unfolding opened
price = refl

pub price_whole : level_of Equities (bytes "100") ≡ Some 999999000
unfolding opened
price_whole = refl

pub price_most : level_of Equities (bytes "99999999.9") ≡ Some 1
unfolding opened
price_most = refl

pub price_zero : level_of Equities (bytes "0.0") ≡ Some 1000000000
unfolding opened
price_zero = refl

pub price_minus : level_of Equities (bytes "-0.1") ≡ None
unfolding opened
price_minus = refl

pub price_two_decimals : level_of Equities (bytes "100.10") ≡ None
unfolding opened
price_two_decimals = refl

pub price_nine_digits : level_of Equities (bytes "000000001") ≡ None
unfolding opened
price_nine_digits = refl

-- 999999999 is the largest quantity; ten digits are none
pub nine_digits : num_of 9 (bytes "999999999") ≡ Some 999999999
unfolding opened
nine_digits = refl

pub ten_digits : num_of 9 (bytes "0000000001") ≡ None
unfolding opened
ten_digits = refl

-- ---- times: 20260105-09:00:00 and what stands behind it
-- to the second, and with the first and the last millisecond
pub to_the_second : is_time (bytes "20260105-09:00:00") ≡ true
unfolding opened
to_the_second = refl

pub first_millisecond : is_time (bytes "20260105-09:00:00.000") ≡ true
unfolding opened
first_millisecond = refl

pub last_millisecond : is_time (bytes "20260105-09:00:00.999") ≡ true
unfolding opened
last_millisecond = refl

-- a point that is not followed by exactly three digits is no time: 52 is garbled, and 60 has not the shape (373=6)
pub bare_point_time : time_shaped (bytes "20260105-09:00:00.") ≡ false
unfolding opened
bare_point_time = refl

pub one_digit_time : time_shaped (bytes "20260105-09:00:00.1") ≡ false
unfolding opened
one_digit_time = refl

pub two_digits_time : time_shaped (bytes "20260105-09:00:00.12") ≡ false
unfolding opened
two_digits_time = refl

pub four_digits_time : time_shaped (bytes "20260105-09:00:00.1234") ≡ false
unfolding opened
four_digits_time = refl

pub letter_time : time_shaped (bytes "20260105-09:00:00.12a") ≡ false
unfolding opened
letter_time = refl

-- nor are three digits behind another mark, or behind none
pub comma_time : time_shaped (bytes "20260105-09:00:00,123") ≡ false
unfolding opened
comma_time = refl

pub no_mark_time : time_shaped (bytes "20260105-09:00:000123") ≡ false
unfolding opened
no_mark_time = refl
