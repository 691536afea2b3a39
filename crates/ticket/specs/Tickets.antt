-- Which report is written of what happens on a table (document 01, "The reports"; document 02, T-08 and T-09): the row of each event,
-- and of the order or the change that is rejected. The table is the one after the event, before anything else changes; the number
-- is the report's own. What the market trades is what the heading notes. 37 is the OrderID that the record keeps. Texts that the
-- market keeps are named by where they stand in the table. Assumes nothing.
use Rattle.std.specs.Prelude.{false, cond, List, ◌≡◌, ℕ, ◌+◌, ◌-◌, ◌<◌, eqb, length, get_or}
use Rattle.matching.specs.declared.Event.{Event}
use Rattle.matching.specs.declared.Event.TheVariants.{Accepted, Replaced, Withdrawn, Canceled, Decremented, Traded, Killed, Expired}
use Rattle.matching.specs.Matching.{who}
use Rattle.matching.specs.Held.{Sound}
use Rattle.table.specs.Places.{table_bytes, record_at, venue_byte, port_byte, code_byte, stamp_byte, account_byte}
use Rattle.table.specs.Heading.{work_of, instrument_of}
use Rattle.table.specs.Orders.{order_id_at, capacity_at, classification_at, cash_at, margin_at, order_at}
use Rattle.report.specs.declared.Place.{Place}
use Rattle.report.specs.declared.Value.{Value}
use Rattle.report.specs.declared.Value.TheVariants.{Absent, Stored}
use Rattle.report.specs.declared.Field.{Field}
use Rattle.rows.specs.declared.Stamp.{Stamp}
use Rattle.rows.specs.declared.Shown.{Shown}
use Rattle.rows.specs.declared.Fill.{Fill}
use Rattle.rows.specs.declared.Refused.{Refused}
use Rattle.rows.specs.declared.Unchanged.{Unchanged}
use Rattle.rows.specs.declared.Faulty.{Faulty}
use Rattle.report.specs.Fields.{row_bytes}
use Rattle.report.specs.Frame.{report_bytes}
use Rattle.rows.specs.Rows.{text, requested, prevented, decremented, expired, status_of, accepted_row, replaced_row, canceled_row, trade_row, rejected_row, cancel_reject_row, session_reject_row}
use Rattle.ticket.specs.declared.Cause.{Cause}

-- ---- what the table keeps

-- the text whose length byte is at place p of the table; no value where it is empty
abbrev pub stored_at : List ℕ → ℕ → Value
stored_at t p = Stored (p + 1) (get_or t p 0)

unfoldable pub or_stored_at : List ℕ → ℕ → Value
or_stored_at t p = cond (eqb (get_or t p 0) 0) Absent (stored_at t p)

-- what report number n starts with, caused by a message with this 52
unfoldable pub stamp_on : List ℕ → ℕ → Place → Stamp
stamp_on t n time =
    record { of = instrument_of t; number = n; time = text time; venue = stored_at t venue_byte; port = stored_at t port_byte }

-- the order of record i as it is reported
unfoldable pub shown_on : List ℕ → ℕ → Shown
shown_on t i =
    record {
      orderid = order_id_at t i;
      order = order_at t i;
      capacity = capacity_at t i;
      class = classification_at t i;
      cash = cash_at t i;
      margin = margin_at t i;
      code = stored_at t code_byte;
      id = stored_at t (record_at i);
      account = or_stored_at t (record_at i + account_byte);
    }

-- ---- the causing message: where its 52 and its 41 stand

-- while Run works: the 52 that the heading keeps; no message is at hand
abbrev pub kept_cause : List ℕ → Cause
kept_cause t =
    record { time = record { sent = false; start = stamp_byte + 1; length = get_or t stamp_byte 0 }; orig = record { sent = false; start = 0; length = 0 } }

-- ---- a trade

-- the order in work is reported second: it removes liquidity, and the pair is named by the number before its own
abbrev pub fill_on : List ℕ → ℕ → ℕ → ℕ → ℕ → ℕ → Fill
fill_on t n i other quantity level =
    record {
      quantity = quantity;
      level = level;
      other = (order_at t other).mpid;
      first = cond (eqb i (work_of t)) (n - 1) n;
      liquidity = cond (eqb i (work_of t)) 2 1;
    }

-- ---- the row of an event, report number n

unfoldable pub row_of : List ℕ → ℕ → Cause → Event → List Field
row_of t n c (Accepted i o) = accepted_row (stamp_on t n c.time) (shown_on t i)
row_of t n c (Replaced i l q p) = replaced_row (stamp_on t n c.time) (shown_on t i) (requested (text c.orig))
row_of t n c (Withdrawn i q) = canceled_row (stamp_on t n c.time) (shown_on t i) (requested (text c.orig))
row_of t n c (Canceled i q) = canceled_row (stamp_on t n c.time) (shown_on t i) prevented
row_of t n c (Decremented i q) = replaced_row (stamp_on t n c.time) (shown_on t i) (decremented (shown_on t i))
row_of t n c (Traded i m q l) = trade_row (stamp_on t n c.time) (shown_on t i) (fill_on t n i m q l)
row_of t n c (Killed i q) = canceled_row (stamp_on t n c.time) (shown_on t i) expired
row_of t n c (Expired i q) = canceled_row (stamp_on t n c.time) (shown_on t i) expired

-- what it is written from: a whole table, the records of the event's orders, a sound order, and a number
abbrev pub other_of : Event → ℕ
other_of (Accepted i o) = 0
other_of (Replaced i l q p) = 0
other_of (Withdrawn i q) = 0
other_of (Canceled i q) = 0
other_of (Decremented i q) = 0
other_of (Traded i m q l) = m
other_of (Killed i q) = 0
other_of (Expired i q) = 0

pub record Ready (t : List ℕ) (n : ℕ) (e : Event) : Type 0 where
  pub long : length t ≡ table_bytes
  pub order_in : who e < 256
  pub order_sound : Sound (order_at t (who e))
  pub other_in : other_of e < 256
  pub number_in : 0 < n

-- its bytes, with the texts of the table and of the message
unfoldable pub ticket_of : List ℕ → List ℕ → ℕ → Cause → Event → List ℕ
ticket_of t message n c e = report_bytes (row_bytes message t (row_of t n c e))

-- ---- the rows of what is refused, report number n, of a message with this 52

-- a new order
unfoldable pub refused_row : List ℕ → ℕ → Place → Refused → List Field
refused_row t n time r = rejected_row (stamp_on t n time) r

-- a cancel or a replacement, where record i has its 41, or none, which is 0
unfoldable pub unchanged_on : List ℕ → ℕ → Place → Place → ℕ → ℕ → Unchanged
unchanged_on t i id orig reason response =
    record {
      id = id;
      orderid = cond (eqb i 0) 0 (order_id_at t i);
      status = cond (eqb i 0) 8 (status_of (order_at t i));
      orig = orig;
      reason = reason;
      response = response;
    }

unfoldable pub unchanged_row : List ℕ → ℕ → Place → Unchanged → List Field
unchanged_row t n time u = cancel_reject_row (stamp_on t n time) u

-- a message with a fault
unfoldable pub faulty_row : List ℕ → ℕ → Place → Faulty → List Field
faulty_row t n time f = session_reject_row (stamp_on t n time) f
