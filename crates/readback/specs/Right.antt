-- When what a report is made from is right, so that the report can be read (document 01, "The reports"; "The table and its calls";
-- "Reading a message"; document 02, T-08): every text has the characters of its field, every number lies in its field's range, by what
-- the market trades. A text stands in the message that was sent or in the table where it is stored. Assumes nothing.
use Rattle.std.specs.Prelude.{ℕ, ◌≤◌, ◌<◌, ◌≡◌, Bool, true, false, List, [], ◌∷◌, ◌⊎◌, length}
use Rattle.decimal.specs.declared.Instrument.{Instrument}
use Rattle.decimal.specs.declared.Instrument.TheVariants.{Bonds, Equities}
use Rattle.decimal.specs.Instruments.{highest}
use Rattle.decimal.specs.Reading.{is_number, is_time}
use Rattle.matching.specs.Matching.{is_side_of}
use Rattle.matching.specs.Held.{Sound}
use Rattle.matching.specs.Quoted.{Quoted}
use Rattle.table.specs.Market.{is_capacity, is_class, is_cash}
use Rattle.report.specs.declared.Value.{Value}
use Rattle.report.specs.declared.Value.TheVariants.{Absent, Number, Char, Word, Sent, Stored, Level, Mean}
use Rattle.report.specs.Fields.{value_bytes}
use Rattle.report.specs.Shapes.{all_from}
use Rattle.rows.specs.declared.Stamp.{Stamp}
use Rattle.rows.specs.declared.Shown.{Shown}
use Rattle.rows.specs.declared.Ground.{Ground}
use Rattle.rows.specs.declared.Fill.{Fill}
use Rattle.rows.specs.declared.Refused.{Refused}
use Rattle.rows.specs.declared.Unchanged.{Unchanged}
use Rattle.rows.specs.declared.Faulty.{Faulty}
use Rattle.rows.specs.Rows.{text, requested, prevented, decremented, expired}
use Rattle.ticket.specs.Legible.{is_among}

-- the value is a text
abbrev pub is_part : Value → Bool
is_part Absent = false
is_part (Number n) = false
is_part (Char c) = false
is_part (Word w x y z) = false
is_part (Sent from len) = true
is_part (Stored from len) = true
is_part (Level q level) = false
is_part (Mean q mean) = false

module _ (sent stored : List ℕ) where
  -- ---- texts

  -- 1 to most characters, each from low to 7E hex
  pub record TextRight (most low : ℕ) (v : Value) : Type 0 where
    pub a_text : is_part v ≡ true
    pub some : 0 < length (value_bytes sent stored v)
    pub few : length (value_bytes sent stored v) ≤ most
    pub all : all_from low (value_bytes sent stored v) ≡ true

  -- 1 to 9 digits
  pub record DigitsRight (v : Value) : Type 0 where
    pub a_text : is_part v ≡ true
    pub digits : is_number 9 (value_bytes sent stored v) ≡ true

  -- 55: a bond's code, or a symbol of 1 to 9 characters
  abbrev pub CodeRight : Instrument → Value → Type 0
  CodeRight Bonds v = DigitsRight v
  CodeRight Equities v = TextRight 9 32 v

  -- a time
  pub record TimeRight (v : Value) : Type 0 where
    pub a_text : is_part v ≡ true
    pub time : is_time (value_bytes sent stored v) ≡ true

  -- 11 and 41
  abbrev pub IdRight : Value → Type 0
  IdRight v = TextRight 32 32 v

  -- ---- what every report starts with
  pub record StampRight (s : Stamp) : Type 0 where
    pub number_low : 1 ≤ s.number
    pub number_high : s.number ≤ 999999999
    pub time_right : TimeRight s.time
    pub venue_right : TextRight 8 33 s.venue
    pub port_right : TextRight 8 33 s.port

  -- ---- an order; it has an account or none, MPID 0 is none, and so is MinQty 0
  pub record ShownRight (q : Instrument) (o : Shown) : Type 0 where
    pub orderid_low : 1 ≤ o.orderid
    pub orderid_high : o.orderid ≤ 999999999
    pub order_right : Sound o.order
    pub quoted_right : Quoted q o.order
    pub mpid_right : o.order.mpid ≤ 999999
    pub capacity_right : is_capacity o.capacity ≡ true
    pub class_right : is_class o.class ≡ true
    pub cash_right : is_cash q o.cash o.margin ≡ true
    pub code_right : CodeRight q o.code
    pub id_right : IdRight o.id
    pub account_right : (o.account ≡ Absent) ⊎ TextRight 10 32 o.account

  -- ---- 41 and 378 of Replaced: requested, or a decrement
  pub data ReplacedRight (o : Shown) : Ground → Type 0 where
    replaced_on_request : {orig : Value} → IdRight orig → ReplacedRight o (requested orig)
    by_decrement : ReplacedRight o (decremented o)

  -- ---- 41 and 378 of Canceled: requested, by prevention, or an immediate order that was killed or whose rest expired
  pub data CanceledRight : Ground → Type 0 where
    canceled_on_request : {orig : Value} → IdRight orig → CanceledRight (requested orig)
    by_prevention : CanceledRight prevented
    at_the_end : CanceledRight expired

  -- ---- a new order that is rejected
  pub record RefusedRight (q : Instrument) (r : Refused) : Type 0 where
    pub id_right : IdRight (text r.id)
    pub quantity_right : r.quantity ≤ 999999999
    pub side_right : is_side_of q r.side ≡ true
    pub code_right : CodeRight q (text r.code)
    pub reason_right : is_among (0 ∷ 1 ∷ 6 ∷ 99 ∷ []) r.reason ≡ true

  -- ---- a cancel or replacement that is rejected; OrderID 0 is none
  pub record UnchangedRight (u : Unchanged) : Type 0 where
    pub id_right : IdRight (text u.id)
    pub orderid_right : u.orderid ≤ 999999999
    pub status_right : is_among (0 ∷ 1 ∷ 2 ∷ 4 ∷ 8 ∷ []) u.status ≡ true
    pub orig_right : IdRight (text u.orig)
    pub reason_right : is_among (0 ∷ 1 ∷ 2 ∷ []) u.reason ≡ true
    pub response_right : is_among (1 ∷ 2 ∷ []) u.response ≡ true

  -- ---- a message with a fault
  pub record FaultyRight (f : Faulty) : Type 0 where
    pub sequence_low : 1 ≤ f.sequence
    pub sequence_high : f.sequence ≤ 999999999
    pub tag_low : 1 ≤ f.tag
    pub tag_high : f.tag ≤ 9999
    pub kind_right : TextRight 2 32 (text f.kind)
    pub reason_right : is_among (1 ∷ 2 ∷ 3 ∷ 4 ∷ 5 ∷ 6 ∷ 9 ∷ 11 ∷ []) f.reason ≡ true

-- ---- a fill
pub record FillRight (q : Instrument) (f : Fill) : Type 0 where
  pub quantity_right : f.quantity ≤ 999999999
  pub level_low : 0 < f.level
  pub level_high : f.level ≤ highest q
  pub other_right : f.other ≤ 999999
  pub first_low : 1 ≤ f.first
  pub first_high : f.first ≤ 999999999
  pub liquidity_right : is_among (1 ∷ 2 ∷ []) f.liquidity ≡ true
