-- Prices in tenths, as a reader of an equities market writes them (document 02, T-08): 100.1 is 1,001. Inside they are held as levels, of
-- which the lower stands for the higher price. Assumes nothing.
use Rattle.std.specs.Prelude.{ℕ}
use Rattle.decimal.specs.declared.Instrument.TheVariants.{Equities}
use Rattle.decimal.specs.Instruments.{stands_for, amount_from}
use Rattle.matching.specs.declared.Order.{Order}

-- the level of a price
abbrev pub price : ℕ → ℕ
price tenths = stands_for Equities 1_000_000_000 tenths

-- the price of an order
abbrev pub price_of : Order → ℕ
price_of o = amount_from Equities 1_000_000_000 o.level
