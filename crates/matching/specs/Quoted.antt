-- What a market of bonds or of equities asks of an order beyond what matching asks: a side that the market has, and a level and a
-- sum that its yields or prices can come to (document 02, T-08). Assumes nothing.
use Rattle.std.specs.Prelude.{◌≡◌, true, ℕ, ◌*◌, ◌≤◌}
use Rattle.decimal.specs.declared.Instrument.{Instrument}
use Rattle.decimal.specs.Instruments.{highest}
use Rattle.matching.specs.declared.Order.{Order}
use Rattle.matching.specs.Matching.{Book, at, is_side_of}
use Rattle.matching.specs.Held.{In}

-- the side is one of the market's, the level at most its highest, and so is that of each piece that the sum is of
pub record Quoted (q : Instrument) (o : Order) : Type 0 where
  pub side : is_side_of q o.side ≡ true
  pub level : o.level ≤ highest q
  pub sum : o.sum ≤ o.executed * highest q

-- and so it is of each order of a book
abbrev pub AllQuoted : Instrument → Book → Type 0
AllQuoted q b = (k : ℕ) → In b k → Quoted q (at b k)
