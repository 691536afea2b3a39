-- The sense of "better": of two levels the lower one is the lower yield, and the higher price. So a rule that takes the lower level
-- first takes the lower yield first in a market of bonds, and the higher price first in a market of equities.
use Prim.Native.Nat.{ℕ, ◌-◌, ◌≤◌, ◌<◌}
use mathlib.Core.Path.{◌≡◌, refl}
use native.Mathlib.Omega.{arith}
use Rattle.decimal.specs.declared.Instrument.{Instrument}
use Rattle.decimal.specs.declared.Instrument.TheVariants.{Bonds, Equities}
use Rattle.decimal.specs.Instruments.{decimals, stands_for, amount_from}
use Rattle.decimal.specs.Reading.{even}
use Rattle.decimal.specs.Writing.{zero_of}

module _ (origin a b : ℕ) where
  -- a higher yield stands at a higher level, and only a higher one does
  pub yield_up : a < b → stands_for Bonds origin a < stands_for Bonds origin b
  yield_up h = omega arith

  pub yield_down : stands_for Bonds origin a < stands_for Bonds origin b → a < b
  yield_down h = omega arith

  -- a yield with a minus stands below every one without, and the lower the more there is behind the minus
  pub minus_under : 0 < a → a ≤ origin → origin - a < stands_for Bonds origin b
  minus_under h l = omega arith

  pub minus_down : a < b → b ≤ origin → origin - b < origin - a
  minus_down h l = omega arith

  -- a higher price stands at a lower level, and only a higher one does
  pub price_up : a < b → b ≤ origin → stands_for Equities origin b < stands_for Equities origin a
  price_up h l = omega arith

  pub price_down : stands_for Equities origin b < stands_for Equities origin a → a < b
  price_down h = omega arith

-- what stands for an amount gives it back
pub amount_again : (q : Instrument) (origin a : ℕ) → a ≤ origin → amount_from q origin (stands_for q origin a) ≡ a
amount_again Bonds origin a h = omega arith
amount_again Equities origin a h = omega arith

-- one level stands for zero in both markets
pub even_is : (q : Instrument) → zero_of q (decimals q) ≡ even
even_is Bonds = refl
even_is Equities = refl
