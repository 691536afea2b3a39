-- What the inner functions of Submit ask and leave. Nothing here need be believed: `submit` cites `submitted` alone.
use Rattle.std.specs.Prelude.{◌≡◌, true, List, [], ◌∷◌, ℕ, ◌≤◌, Result}
use Rattle.refusals.specs.declared.Refusal.{Refusal}
use Rattle.decimal.specs.declared.Instrument.{Instrument}
use Rattle.decimal.specs.Reading.{is_time}
use Rattle.request.specs.declared.Terms.{Terms}
use Rattle.request.specs.declared.Asked.{Asked}
use Rattle.request.specs.Asks.{asked_of}
use Rattle.matching.specs.declared.Order.{Order}
use Rattle.table.specs.Heading.{venue_of, port_of, next_of, work_of, instrument_of}
use Rattle.table.specs.Orders.{filled}
use Rattle.table.specs.Market.{is_printable, is_market_of}
use Rattle.table.specs.Facts.{Market}
use Rattle.ticket.specs.Legible.{Placed, is_among}
use Rattle.calls.specs.declared.Reply.{Reply}
use Rattle.calls.specs.Told.{area_after}
use Rattle.calls.specs.Checks.{text_of}
use Rattle.calls.specs.Submit.{Submitted, sent_at}
use Rattle.intake.specs.declared.rejects.Change.{Change}

-- a market of bonds or of equities that can take a message: nothing is in work, and numbers are left
pub record Ready (q : Instrument) (t : List ℕ) : Type 0 where
  pub market : is_market_of q t ≡ true
  pub idle : work_of t ≡ 0
  pub numbers : next_of t ≤ 999998976

-- a market with nothing in work and numbers left, to which a message asks a
pub record Asking (t message : List ℕ) (a : Asked) : Type 0 where
  pub market : Market t
  pub idle : work_of t ≡ 0
  pub numbers : next_of t ≤ 999998976
  pub asks : asked_of (instrument_of t) (venue_of t) (port_of t) message ≡ a

-- a cancel or a replacement, of a record of such a market or of none, that can be rejected
pub record Unmet (t message : List ℕ) (c : Change) : Type 0 where
  pub market : Market t
  pub numbers : next_of t ≤ 999998976
  pub few : c.holder ≤ filled t
  pub stamped : is_time (text_of message c.time) ≡ true
  pub cl_ord_id : Placed is_printable 1 32 message t (sent_at c.id)
  pub orig : Placed is_printable 1 32 message t (sent_at c.original)
  pub response_in : is_among (1 ∷ 2 ∷ []) c.response ≡ true

-- the order of these terms with this place, as it is accepted
abbrev pub order_with : Terms → ℕ → Order
order_with o place =
    record {
      side = o.side;
      tif = o.tif;
      level = o.level;
      qty = o.quantity;
      executed = 0;
      decremented = 0;
      canceled = 0;
      sum = 0;
      place = place;
      mpid = o.mpid;
      minqty = o.minqty;
    }

-- the answer, the table and the report area afterwards are those of s
pub record Left (s : Submitted) (area : List ℕ) (r : Result Reply Refusal) (t after : List ℕ) : Type 0 where
  pub answers : r ≡ s.answer
  pub table_is : t ≡ s.table
  pub area_is : after ≡ area_after area s.reports
