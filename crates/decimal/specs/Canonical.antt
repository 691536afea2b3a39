-- What a text says where only one way of writing is taken: Read of document 01 and T-08 of document 02, which takes no needless
-- zero, exactly three decimals of a yield and six of its AvgPx, or one of a price and four of its AvgPx, one whole digit or more
-- and at most six, or eight of a price, and no minus on zero or on a price. Assumes nothing.
use Rattle.std.specs.Prelude.{ℕ, ◌+◌, ◌-◌, ◌*◌, ◌^◌, List, Option, Some, None, Bool, cond, not, ◌&&◌, ◌||◌, length, get_or, take, drop, leb, eqb}
use Rattle.octets.specs.Characters.{byte}
use Rattle.decimal.specs.declared.Instrument.{Instrument}
use Rattle.decimal.specs.Instruments.{whole_digits, decimals, mean_decimals, stands_for, signed}
use Rattle.decimal.specs.Reading.{digit_run, number, num_of}
use Rattle.decimal.specs.Writing.{zero_of}

-- no needless zero: a zero stands in front only where it stands alone
unfoldable pub bare : List ℕ → Bool
bare s = eqb (length s) 1 || not (eqb (get_or s 0 0) (byte "0"))

-- 1 to n digits with no needless zero
unfoldable pub bare_of : ℕ → List ℕ → Option ℕ
bare_of n s = cond (bare s) (num_of n s) None

-- what is said, where it lies in a range
abbrev pub within : ℕ → ℕ → Option ℕ → Option ℕ
within least most (Some v) = cond (leb least v && leb v most) (Some v) None
within least most None = None

-- exactly k digits
unfoldable pub exactly_of : ℕ → List ℕ → Option ℕ
exactly_of k s = cond (eqb (length s) k && eqb (digit_run s) k) (Some (number s)) None

-- a whole part and k decimals, in the smallest unit
abbrev pub joined : ℕ → Option ℕ → Option ℕ → Option ℕ
joined k (Some a) (Some b) = Some (a * 10 ^ k + b)
joined k (Some a) None = None
joined k None y = None

-- the amount of a text with no minus, in its smallest unit: at most w whole digits, a point, k decimals
unfoldable pub amount_of : ℕ → ℕ → List ℕ → Option ℕ
amount_of w k s =
    cond (eqb (get_or s (digit_run s) 0) (byte "."))
    (joined k (bare_of w (take (digit_run s) s)) (exactly_of k (drop (digit_run s + 1) s)))
    None

-- an amount with a minus before it, or without, as what stands for it; no minus on zero
abbrev pub below_zero : Instrument → ℕ → Option ℕ → Option ℕ
below_zero q k (Some m) = cond (signed q && not (eqb m 0)) (Some (zero_of q k - m)) None
below_zero q k None = None

abbrev pub above_zero : Instrument → ℕ → Option ℕ → Option ℕ
above_zero q k (Some m) = Some (stands_for q (zero_of q k) m)
above_zero q k None = None

-- what stands for the number with k decimals that s is
unfoldable pub fixed_of : Instrument → ℕ → List ℕ → Option ℕ
fixed_of q k s =
    cond (eqb (get_or s 0 0) (byte "-"))
    (below_zero q k (amount_of (whole_digits q) k (drop 1 s)))
    (above_zero q k (amount_of (whole_digits q) k s))

-- the level of the yield or the price that s is
unfoldable pub level_in : Instrument → List ℕ → Option ℕ
level_in q s = fixed_of q (decimals q) s

-- the mean of the AvgPx that s is
unfoldable pub mean_in : Instrument → List ℕ → Option ℕ
mean_in q s = fixed_of q (mean_decimals q) s
