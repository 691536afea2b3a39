-- What a report's row is made from, in range: what a market promises of its table and a good message of its fields (document 01,
-- "The table and its calls", "Reading a message"; document 02, T-08; source documents 000 and 003, 4.2), by what the market trades. A
-- row made from these is short: no report of either market is longer than 512 bytes. A time may have 21 characters. Assumes nothing.
use Rattle.std.specs.Prelude.{List, ℕ, ◌^◌, ◌≤◌, ◌<◌, length}
use Rattle.decimal.specs.declared.Instrument.{Instrument}
use Rattle.decimal.specs.Instruments.{highest}
use Rattle.matching.specs.Held.{Sound}
use Rattle.matching.specs.Quoted.{Quoted}
use Rattle.report.specs.declared.Value.{Value}
use Rattle.report.specs.Fields.{value_bytes}
use Rattle.rows.specs.declared.Stamp.{Stamp}
use Rattle.rows.specs.declared.Shown.{Shown}
use Rattle.rows.specs.declared.Ground.{Ground}
use Rattle.rows.specs.declared.Fill.{Fill}
use Rattle.rows.specs.declared.Refused.{Refused}
use Rattle.rows.specs.declared.Unchanged.{Unchanged}
use Rattle.rows.specs.declared.Faulty.{Faulty}

-- the value takes at most so many bytes, with the texts of the message and of the table
abbrev pub Short : List ℕ → List ℕ → ℕ → Value → Type 0
Short sent stored n v = length (value_bytes sent stored v) ≤ n

module _ (sent stored : List ℕ) where
  -- what every report starts with
  pub record StampIn (s : Stamp) : Type 0 where
    pub number_in : s.number < 10 ^ 9
    pub time_in_lem : Short sent stored 21 s.time
    pub venue_in : Short sent stored 8 s.venue
    pub port_in : Short sent stored 8 s.port

  -- an order
  pub record ShownIn (q : Instrument) (o : Shown) : Type 0 where
    pub orderid_in : o.orderid < 10 ^ 9
    pub order_in : Sound o.order
    pub quoted_in : Quoted q o.order
    pub mpid_in : o.order.mpid < 10 ^ 6
    pub code_in : Short sent stored 9 o.code
    pub id_in : Short sent stored 32 o.id
    pub account_in_lem : Short sent stored 10 o.account

  -- why it was replaced or canceled
  pub record GroundIn (w : Ground) : Type 0 where
    pub orig_in : Short sent stored 32 w.orig
    pub reason_in : Short sent stored 3 w.reason

-- a fill
pub record FillIn (q : Instrument) (f : Fill) : Type 0 where
  pub quantity_in : f.quantity < 10 ^ 9
  pub level_low : 0 < f.level
  pub level_high : f.level ≤ highest q
  pub other_in : f.other < 10 ^ 6
  pub first_in : f.first < 10 ^ 9
  pub liquidity_in : f.liquidity < 10

-- a new order that is rejected
pub record RefusedIn (r : Refused) : Type 0 where
  pub id_in : r.id.length ≤ 32
  pub quantity_in : r.quantity < 10 ^ 9
  pub code_in : r.code.length ≤ 9
  pub reason_in : r.reason < 100

-- a cancel or replacement that is rejected
pub record UnchangedIn (u : Unchanged) : Type 0 where
  pub id_in : u.id.length ≤ 32
  pub orderid_in : u.orderid < 10 ^ 9
  pub orig_in : u.orig.length ≤ 32
  pub reason_in : u.reason < 10
  pub response_in : u.response < 10

-- a message with a fault
pub record FaultyIn (f : Faulty) : Type 0 where
  pub sequence_in : f.sequence < 10 ^ 9
  pub tag_in : f.tag < 10 ^ 4
  pub kind_in : f.kind.length ≤ 2
  pub reason_in : f.reason < 100
