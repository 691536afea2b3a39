-- What a text says: a number of some digits, a yield or a price as a level, a time. From "Reading a message" of document 01 and
-- T-08 of document 02. A text is the list of its bytes; what is past its end reads as no digit. Assumes nothing.
use Rattle.std.specs.Prelude.{ℕ, suc, ◌+◌, ◌-◌, ◌*◌, ◌^◌, List, [], ◌∷◌, Option, Some, None, option_map, Bool, cond, ◌&&◌, ◌||◌, length, get_or, take, drop, ltb, leb, eqb}
use Rattle.octets.specs.Characters.{byte}
use Rattle.decimal.specs.declared.Instrument.{Instrument}
use Rattle.decimal.specs.Instruments.{whole_digits, decimals, stands_for, signed}

-- ---- digits

-- the byte is a digit, 0 to 9
unfoldable pub is_digit : ℕ → Bool
is_digit b = leb (byte "0") b && leb b (byte "9")

-- the digit that a byte is, and 100 where it is none
unfoldable pub digit_of : ℕ → ℕ
digit_of b = cond (is_digit b) (b - byte "0") 100

-- how many bytes s starts with that pass the test p
unfoldable pub run_of : (ℕ → Bool) → List ℕ → ℕ
run_of p [] = 0
run_of p (b ∷ s) = cond (p b) (suc (run_of p s)) 0

-- how many digits s starts with
abbrev pub digit_run : List ℕ → ℕ
digit_run s = run_of is_digit s

-- ---- numbers

-- the number that the digits s say, after digits that said n
unfoldable pub number_after : ℕ → List ℕ → ℕ
number_after n [] = n
number_after n (b ∷ s) = number_after (n * 10 + (b - byte "0")) s

-- the number that the digits s say
abbrev pub number : List ℕ → ℕ
number s = number_after 0 s

-- s is 1 to n digits
unfoldable pub is_number : ℕ → List ℕ → Bool
is_number n s = ltb 0 (length s) && leb (length s) n && eqb (digit_run s) (length s)

-- what s says as a number of 1 to n digits
unfoldable pub num_of : ℕ → List ℕ → Option ℕ
num_of n s = cond (is_number n s) (Some (number s)) None

-- ---- yields and prices: 1 to 6 digits, or 1 to 8 of a price, then optionally a point and 1 to 3 digits, or 1 of a price; a
-- minus may stand before a yield

-- what stands behind the whole digits, in units of the last of k decimals: nothing, or a point and 1 to k digits, where those that
-- are not written count as 0
unfoldable pub fraction_of : ℕ → List ℕ → Option ℕ
fraction_of k s =
    cond (eqb (length s) 0) (Some 0)
    (cond (eqb (get_or s 0 0) (byte ".")) (option_map (λ n. n * 10 ^ (k + 1 - length s)) (num_of k (drop 1 s))) None)

-- what has no minus, of 1 to w whole digits and up to k decimals, in units of the last of these
unfoldable pub size_of : ℕ → ℕ → List ℕ → Option ℕ
size_of w k s =
    cond (ltb 0 (digit_run s) && leb (digit_run s) w)
    (option_map (λ f. number (take (digit_run s) s) * 10 ^ k + f) (fraction_of k (drop (digit_run s) s)))
    None

-- the level of a yield or a price of zero
abbrev pub even : ℕ
even = 1000000000

-- a yield or a price as a level; a minus before zero changes nothing, and no price has one
unfoldable pub level_of : Instrument → List ℕ → Option ℕ
level_of q s =
    cond (eqb (get_or s 0 0) (byte "-"))
    (cond (signed q) (option_map (λ t. even - t) (size_of (whole_digits q) (decimals q) (drop 1 s))) None)
    (option_map (stands_for q even) (size_of (whole_digits q) (decimals q) s))

-- ---- times: YYYYMMDD-HH:MM:SS, or YYYYMMDD-HH:MM:SS.sss

-- the lengths that a time may have: without milliseconds, and with a point and three digits of them
unfoldable pub is_time_length : ℕ → Bool
is_time_length n = eqb n 17 || eqb n 21

-- the number that the two digits at place i say: below 100 exactly where both are digits
unfoldable pub two_at : List ℕ → ℕ → ℕ
two_at s i = digit_of (get_or s i 0) * 10 + digit_of (get_or s (i + 1) 0)

-- behind the seconds stands nothing, or a point and three digits
abbrev pub millis_shaped : List ℕ → Bool
millis_shaped s = eqb (length s) 17 || (eqb (get_or s 17 0) (byte ".") && ltb (two_at s 18) 100 && is_digit (get_or s 20 0))

-- digits and marks stand where those of a time do
unfoldable pub time_shaped : List ℕ → Bool
time_shaped s =
    is_time_length (length s)
    && ltb (two_at s 0) 100 && ltb (two_at s 2) 100 && ltb (two_at s 4) 100 && ltb (two_at s 6) 100 && eqb (get_or s 8 0) (byte "-")
    && ltb (two_at s 9) 100 && eqb (get_or s 11 0) (byte ":") && ltb (two_at s 12) 100 && eqb (get_or s 14 0) (byte ":") && ltb (two_at s 15) 100
    && millis_shaped s

-- month 01 to 12, day 01 to 31, hour to 23, minute and second to 59; milliseconds are in range whatever they are
unfoldable pub time_ranged : List ℕ → Bool
time_ranged s =
    leb 1 (two_at s 4) && leb (two_at s 4) 12 && leb 1 (two_at s 6) && leb (two_at s 6) 31
    && leb (two_at s 9) 23 && leb (two_at s 12) 59 && leb (two_at s 15) 59

-- s is a time
unfoldable pub is_time : List ℕ → Bool
is_time s = time_shaped s && time_ranged s
