-- What a report is written from, in range, so that it is at most 512 bytes and reads back as the report it is (document 01, "The
-- reports" and Read; document 02, T-08): the heading of the table, the record of the order after the event, the cause, and the fill of
-- a trade; and the same for the three reports of what is refused. What depends on what the market trades is asked by what the
-- heading notes. It is asked of the table right after the event, before the next number or what is in work changes. Assumes nothing.
use Rattle.std.specs.Prelude.{Bool, true, false, ◌||◌, ◌≡◌, List, [], ◌∷◌, ℕ, ◌≤◌, ◌<◌, eqb, length}
use Rattle.decimal.specs.declared.Instrument.{Instrument}
use Rattle.decimal.specs.declared.Instrument.TheVariants.{Bonds, Equities}
use Rattle.decimal.specs.Instruments.{highest}
use Rattle.decimal.specs.Reading.{is_digit, is_time}
use Rattle.matching.specs.declared.Event.{Event}
use Rattle.matching.specs.declared.Event.TheVariants.{Accepted, Replaced, Withdrawn, Canceled, Decremented, Traded, Killed, Expired}
use Rattle.matching.specs.Matching.{who, is_side_of}
use Rattle.matching.specs.Held.{Sound, Covered}
use Rattle.matching.specs.Quoted.{Quoted}
use Rattle.table.specs.Places.{table_bytes}
use Rattle.table.specs.Heading.{venue_of, port_of, code_of, work_of, instrument_of}
use Rattle.table.specs.Orders.{cl_ord_id_at, account_at, order_id_at, marks_at, order_at}
use Rattle.table.specs.Market.{every, is_graphic, is_printable, is_code_character, is_marked}
use Rattle.report.specs.declared.Place.{Place}
use Rattle.report.specs.Fields.{value_bytes}
use Rattle.rows.specs.declared.Refused.{Refused}
use Rattle.rows.specs.declared.Unchanged.{Unchanged}
use Rattle.rows.specs.declared.Faulty.{Faulty}
use Rattle.rows.specs.Rows.{text}
use Rattle.ticket.specs.declared.Cause.{Cause}

-- ---- texts

-- a text of low to high characters, of which each passes the test
pub record Spelt (f : ℕ → Bool) (low high : ℕ) (xs : List ℕ) : Type 0 where
  pub least : low ≤ length xs
  pub most : length xs ≤ high
  pub good : every f xs ≡ true

-- the text at a place of the message or of the table
abbrev pub text_by : List ℕ → List ℕ → Place → List ℕ
text_by message t p = value_bytes message t (text p)

-- the place has at most high bytes, and the text there low to high characters of which each passes the test
pub record Placed (f : ℕ → Bool) (low high : ℕ) (message t : List ℕ) (p : Place) : Type 0 where
  pub least : low ≤ length (text_by message t p)
  pub most : p.length ≤ high
  pub good : every f (text_by message t p) ≡ true

-- a character of 55 as a message may have it: of a bond's code a digit, of a symbol any from 20 to 7E hex
unfoldable pub is_symbol_character : Instrument → ℕ → Bool
is_symbol_character Bonds = is_digit
is_symbol_character Equities = is_printable

-- one of these numbers
abbrev pub is_among : List ℕ → ℕ → Bool
is_among [] n = false
is_among (x ∷ xs) n = eqb n x || is_among xs n

-- ---- the parts of a report

-- what every report starts with: its number, the 52 of the causing message, venue and port
pub record Headed (t message : List ℕ) (n : ℕ) (time : Place) : Type 0 where
  pub long : length t ≡ table_bytes
  pub number_low : 1 ≤ n
  pub number_high : n < 1000000000
  pub stamped : is_time (text_by message t time) ≡ true
  pub venue : Spelt is_graphic 1 8 (venue_of t)
  pub port : Spelt is_graphic 1 8 (port_of t)

-- the bond code or symbol, and the order of record i
pub record Recorded (t : List ℕ) (i : ℕ) : Type 0 where
  pub low : 1 ≤ i
  pub high : i < 256
  pub code : Spelt (is_code_character (instrument_of t)) 1 9 (code_of t)
  pub cl_ord_id : Spelt is_printable 1 32 (cl_ord_id_at t i)
  pub account : Spelt is_printable 0 10 (account_at t i)
  pub orderid_low : 1 ≤ order_id_at t i
  pub orderid_high : order_id_at t i < 1000000000
  pub marked : is_marked (instrument_of t) (marks_at t i) ≡ true
  pub sound : Sound (order_at t i)
  pub quoted : Quoted (instrument_of t) (order_at t i)
  pub owner : (order_at t i).mpid < 1000000

-- a fill of the order of record i against another; the order in work is reported second, so a number stands before its own
pub record Dealt (t : List ℕ) (n i other quantity level : ℕ) : Type 0 where
  pub other_in : other < 256
  pub other_owner : (order_at t other).mpid < 1000000
  pub quantity_high : quantity < 1000000000
  pub level_low : 0 < level
  pub level_high : level ≤ highest (instrument_of t)
  pub second : i ≡ work_of t → 2 ≤ n

-- what an event adds: the 41 of a replacement or a cancel that was requested, the fill of a trade
abbrev pub Details : List ℕ → List ℕ → ℕ → Cause → Event → Type 0
Details t message n c (Accepted i o) = Unit {0}
Details t message n c (Replaced i l q p) = Placed is_printable 1 32 message t c.orig
Details t message n c (Withdrawn i q) = Placed is_printable 1 32 message t c.orig
Details t message n c (Canceled i q) = Unit {0}
Details t message n c (Decremented i q) = Unit {0}
Details t message n c (Traded i m q l) = Dealt t n i m q l
Details t message n c (Killed i q) = Unit {0}
Details t message n c (Expired i q) = Unit {0}

-- ---- the report of event e, number n, on the table after it

pub record Legible (t message : List ℕ) (n : ℕ) (c : Cause) (e : Event) : Type 0 where
  pub heading : Headed t message n c.time
  pub order : Recorded t (who e)
  pub details : Details t message n c e

-- ---- the reports of what is refused, number n, of a message with this 52

-- a new order
pub record LegibleRefused (t message : List ℕ) (n : ℕ) (time : Place) (r : Refused) : Type 0 where
  pub heading : Headed t message n time
  pub cl_ord_id : Placed is_printable 1 32 message t r.id
  pub code : Placed (is_symbol_character (instrument_of t)) 1 9 message t r.code
  pub quantity : r.quantity < 1000000000
  pub side : is_side_of (instrument_of t) r.side ≡ true
  pub reason : is_among (0 ∷ 1 ∷ 6 ∷ 99 ∷ []) r.reason ≡ true

-- a cancel or a replacement
pub record LegibleUnchanged (t message : List ℕ) (n : ℕ) (time : Place) (u : Unchanged) : Type 0 where
  pub heading : Headed t message n time
  pub cl_ord_id : Placed is_printable 1 32 message t u.id
  pub orig : Placed is_printable 1 32 message t u.orig
  pub orderid : u.orderid < 1000000000
  pub status : is_among (0 ∷ 1 ∷ 2 ∷ 4 ∷ 8 ∷ []) u.status ≡ true
  pub reason : is_among (0 ∷ 1 ∷ 2 ∷ []) u.reason ≡ true
  pub response : is_among (1 ∷ 2 ∷ []) u.response ≡ true

-- the record that has the 41 of such a message, or 0 for none
pub record Holder (t : List ℕ) (i : ℕ) : Type 0 where
  pub long : length t ≡ table_bytes
  pub high : i < 256
  pub numbered : 1 ≤ i → order_id_at t i < 1000000000
  pub covered : 1 ≤ i → Covered (order_at t i)

-- a message with a fault
pub record LegibleFaulty (t message : List ℕ) (n : ℕ) (time : Place) (f : Faulty) : Type 0 where
  pub heading : Headed t message n time
  pub sequence_low : 1 ≤ f.sequence
  pub sequence_high : f.sequence < 1000000000
  pub tag_low : 1 ≤ f.tag
  pub tag_high : f.tag < 10000
  pub kind : Placed is_printable 1 2 message t f.kind
  pub reason : is_among (1 ∷ 2 ∷ 3 ∷ 4 ∷ 5 ∷ 6 ∷ 9 ∷ 11 ∷ []) f.reason ≡ true
