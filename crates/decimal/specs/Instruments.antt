-- What a market trades, and how its yields or prices are quoted: the sense of "better" and the scale (document 02, T-08; source
-- documents 000 and 003, 4.2). A yield or a price is held as its level, a number that is never below zero: 1,000,000,000 stands for
-- zero, a yield lies above it by its thousandths (or below, where it has a minus), a price lies below it by its tenths. So in both
-- markets the lower level is better for a buy: of yields the lower one, of prices the higher. Assumes nothing.
use Rattle.std.specs.Prelude.{ℕ, ◌+◌, ◌-◌, Bool, true, false}
use Rattle.decimal.specs.declared.Instrument.{Instrument}
use Rattle.decimal.specs.declared.Instrument.TheVariants.{Bonds, Equities}

-- ---- the scale

-- at most so many whole digits
abbrev pub whole_digits : Instrument → ℕ
whole_digits Bonds = 6
whole_digits Equities = 8

-- the decimals of a yield or a price
abbrev pub decimals : Instrument → ℕ
decimals Bonds = 3
decimals Equities = 1

-- and of their average, AvgPx: three more
abbrev pub mean_decimals : Instrument → ℕ
mean_decimals q = decimals q + 3

-- ---- the sense

-- what stands for an amount that is not below zero, where zero is stood for by this
abbrev pub stands_for : Instrument → ℕ → ℕ → ℕ
stands_for Bonds origin amount = origin + amount
stands_for Equities origin amount = origin - amount

-- and the other way: the amount that v stands for, where that is not below zero
abbrev pub amount_from : Instrument → ℕ → ℕ → ℕ
amount_from Bonds origin v = v - origin
amount_from Equities origin v = origin - v

-- a yield may be below zero, with a minus before it; a price may not
abbrev pub signed : Instrument → Bool
signed Bonds = true
signed Equities = false

-- the highest level: 1,999,999,999 is a yield of 999,999.999, and 1,000,000,000 a price of zero. The lowest is 1 in both: a yield of
-- -999,999.999, a price of 99,999,999.9
abbrev pub highest : Instrument → ℕ
highest Bonds = 1999999999
highest Equities = 1000000000

-- and the highest mean, where 1,000,000,000,000 stands for an average of zero: again less than a million above it for yields, and
-- zero itself for prices
abbrev pub highest_mean : Instrument → ℕ
highest_mean Bonds = 1999999999999
highest_mean Equities = 1000000000000
