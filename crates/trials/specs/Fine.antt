-- What a sample is made from is in range, whatever the texts of the message and of the table are. Assumes nothing.
use Rattle.std.specs.Prelude.{◌≡◌, List, ℕ, ◌+◌, ◌*◌, ◌≤◌, ◌<◌, length}
use Rattle.decimal.specs.declared.Instrument.{Instrument}
use Rattle.decimal.specs.Instruments.{highest}
use Rattle.matching.specs.Held.{Sound}
use Rattle.report.specs.declared.Field.{Field}
use Rattle.report.specs.Fields.{row_bytes}
use Rattle.rows.specs.declared.Stamp.{Stamp}
use Rattle.rows.specs.declared.Shown.{Shown}
use Rattle.rows.specs.declared.Ground.{Ground}
use Rattle.rows.specs.Ranges.{StampIn, ShownIn, GroundIn}

-- the start of a report of a market
pub record StampFine (q : Instrument) (s : Stamp) : Type 0 where
  pub of_is : s.of ≡ q
  pub stamp_in : (m t : List ℕ) → StampIn m t s

-- how much of an order of qty has executed, was decremented and was canceled, and the sum of quantity times level of what has executed:
-- no more than there is, all of it once something is canceled, and a sum that levels from 1 to the market's highest come to
pub record AmountsFine (q : Instrument) (qty executed decremented canceled sum : ℕ) : Type 0 where
  pub covered : executed + decremented + canceled ≤ qty
  pub dead : 0 < canceled → executed + decremented + canceled ≡ qty
  pub sum_low : executed ≤ sum
  pub sum_high : sum ≤ executed * highest q

-- an order of a market
pub record ShownFine (q : Instrument) (o : Shown) : Type 0 where
  pub shown_in : (m t : List ℕ) → ShownIn m t q o
  pub sound : Sound o.order

-- why it was replaced or canceled
pub record GroundFine (w : Ground) : Type 0 where
  pub ground_in : (m t : List ℕ) → GroundIn m t w

-- a row that a report of at most 512 bytes is written from
pub record RowFine (row : List Field) : Type 0 where
  pub row_in : (m t : List ℕ) → length (row_bytes m t row) ≤ 489
