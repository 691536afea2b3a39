-- What Submit answers and leaves (document 01, "The table and its calls", Submit and refusals 1 to 8; document 02, T-08 and T-09): for any
-- bytes of a table, of a message, and any length of the report area. Assumes nothing.
use Rattle.std.specs.Prelude.{true, false, cond, not, List, [], ◌∷◌, ℕ, eqb, ltb, length, Result, Ok, Err}
use Rattle.refusals.specs.declared.Refusal.{Refusal}
use Rattle.refusals.specs.declared.Refusal.TheVariants as refusal
use Rattle.refusals.specs.Refusals.{number_of}
use Rattle.decimal.specs.declared.Instrument.{Instrument}
use Rattle.fix.specs.declared.frame.Part.{Part}
use Rattle.request.specs.declared.Refusal.{Refusal as Fault}
use Rattle.request.specs.declared.NewOrder.{NewOrder}
use Rattle.request.specs.declared.Replacement.{Replacement}
use Rattle.request.specs.declared.Cancellation.{Cancellation}
use Rattle.request.specs.declared.Asked.{Asked}
use Rattle.request.specs.declared.Asked.TheVariants.{Garbled, Refused, Enters, Replaces, Cancels}
use Rattle.request.specs.Asks.{asked_of}
use Rattle.matching.specs.declared.Order.{Order}
use Rattle.matching.specs.declared.Event.TheVariants.{Accepted, Replaced, Withdrawn}
use Rattle.matching.specs.Matching.{open_of}
use Rattle.table.specs.declared.record.Marks.{Marks}
use Rattle.table.specs.Heading.{venue_of, port_of, next_of, work_of, instrument_of}
use Rattle.table.specs.Orders.{order_at, record_for, accepted, replaced, withdrawn}
use Rattle.table.specs.Market.{is_market_of}
use Rattle.table.specs.Changes.{numbered, entered, renewed, taken}
use Rattle.report.specs.declared.Place.{Place}
use Rattle.report.specs.declared.Field.{Field}
use Rattle.report.specs.Fields.{row_bytes}
use Rattle.report.specs.Frame.{report_bytes}
use Rattle.ticket.specs.declared.Cause.{Cause}
use Rattle.ticket.specs.Tickets.{ticket_of, refused_row, unchanged_on, unchanged_row, faulty_row}
use Rattle.calls.specs.declared.OrderReason.{OrderReason}
use Rattle.calls.specs.declared.ChangeReason.{ChangeReason}
use Rattle.calls.specs.declared.ReplyKind.{ReplyKind}
use Rattle.calls.specs.declared.ReplyKind.TheVariants.{SessionReject, OrderReject, ChangeReject, Taken}
use Rattle.calls.specs.declared.Reply.{Reply}
use Rattle.calls.specs.Told.{room_asked}
use Rattle.calls.specs.Checks.{text_of, holder, order_number, change_number, new_stands, cancel_stands, replace_stands}

-- what Submit leaves: its answer, the table, and the report that it wrote, if any
pub record Submitted : Type 0 where
  pub answer : Result Reply Refusal
  pub table : List ℕ
  pub reports : List (List ℕ)

-- nothing is changed
abbrev pub unchanged : List ℕ → Refusal → Submitted
unchanged t r = record { answer = Err r; table = t; reports = [] }

-- one report is written
abbrev pub reported : List ℕ → List ℕ → ReplyKind → Submitted
reported t report kind = record { answer = Ok (record { kind = kind; len = length report }); table = t; reports = report ∷ [] }

-- where a text of the message stands, for a report
abbrev pub sent_at : Part → Place
sent_at p = record { sent = true; start = p.start; length = p.len }

abbrev pub no_text : Place
no_text = record { sent = false; start = 0; length = 0 }

-- the message that causes a report: its 52 and, if it has one, its 41
abbrev pub cause_of : Part → Place → Cause
cause_of time orig = record { time = sent_at time; orig = orig }

-- what of a new order only reports read
abbrev pub marks_of : NewOrder → Marks
marks_of o = record { capacity = o.terms.capacity; class = o.terms.class; cash = o.terms.cash; margin = o.terms.margin }

module _ (t message : List ℕ) where
  -- ---- what is rejected: a report that takes the next number, and nothing else changes

  unfoldable pub rejecting : List Field → ReplyKind → Submitted
  rejecting row kind = reported (numbered t 1) (report_bytes (row_bytes message t row)) kind

  -- a message with a fault
  unfoldable pub faulted : Fault → Submitted
  faulted r =
      rejecting (faulty_row t (next_of t) (sent_at r.time) (record { sequence = r.number; tag = r.tag; kind = sent_at r.kind; reason = r.reason }))
      SessionReject

  -- a new order, for a reason
  unfoldable pub new_rejected : NewOrder → OrderReason → Submitted
  new_rejected o reason =
      rejecting (refused_row t (next_of t) (sent_at o.time) (record { id = sent_at o.id; quantity = o.terms.quantity; side = o.terms.side; code = sent_at o.code; reason = order_number reason }))
      OrderReject

  -- a change of record k, or of none, for a reason; response 1 to a cancel, 2 to a replacement
  unfoldable pub change_rejected : Part → Part → Part → ℕ → ChangeReason → ℕ → Submitted
  change_rejected time id original k reason response =
      rejecting (unchanged_row t (next_of t) (sent_at time) (unchanged_on t k (sent_at id) (sent_at original) (change_number reason) response))
      ChangeReject

  -- ---- what is taken: the report of its event, and the table after it

  -- a new order: the number of this report is its place, and its OrderID
  abbrev pub new_order_of : NewOrder → Order
  new_order_of o =
      record {
        side = o.terms.side;
        tif = o.terms.tif;
        level = o.terms.level;
        qty = o.terms.quantity;
        executed = 0;
        decremented = 0;
        canceled = 0;
        sum = 0;
        place = next_of t;
        mpid = o.terms.mpid;
        minqty = o.terms.minqty;
      }

  unfoldable pub new_taken : NewOrder → Submitted
  new_taken o =
      let k = record_for t in
      let cl_ord_id = text_of message o.id in
      let account = text_of message o.account in
      reported (entered t k cl_ord_id account (marks_of o) (new_order_of o) (text_of message o.time))
      (ticket_of (accepted t k (next_of t) cl_ord_id account (marks_of o) (new_order_of o)) message (next_of t) (cause_of o.time no_text) (Accepted k (new_order_of o)))
      Taken

  -- a replacement of record k: the place that it may take is the number of this report
  unfoldable pub replacement_taken : Replacement → ℕ → Submitted
  replacement_taken o k =
      let cl_ord_id = text_of message o.id in
      let e = Replaced k o.level o.quantity (next_of t) in
      reported (renewed t cl_ord_id e (text_of message o.time))
      (ticket_of (replaced t cl_ord_id e) message (next_of t) (cause_of o.time (sent_at o.original)) e)
      Taken

  -- a cancel of record k: all that is open
  unfoldable pub cancel_taken : Cancellation → ℕ → Submitted
  cancel_taken o k =
      let cl_ord_id = text_of message o.id in
      let e = Withdrawn k (open_of (order_at t k)) in
      reported (taken t cl_ord_id e)
      (ticket_of (withdrawn t cl_ord_id e) message (next_of t) (cause_of o.time (sent_at o.original)) e)
      Taken

  -- ---- the three requests

  abbrev pub entering : NewOrder → Result (Unit {0}) OrderReason → Submitted
  entering o (Ok stands) = new_taken o
  entering o (Err reason) = new_rejected o reason

  abbrev pub replacing : Replacement → Result (Unit {0}) ChangeReason → Submitted
  replacing o (Ok stands) = replacement_taken o (holder t (text_of message o.original))
  replacing o (Err reason) = change_rejected o.time o.id o.original (holder t (text_of message o.original)) reason 2

  abbrev pub canceling : Cancellation → Result (Unit {0}) ChangeReason → Submitted
  canceling o (Ok stands) = cancel_taken o (holder t (text_of message o.original))
  canceling o (Err reason) = change_rejected o.time o.id o.original (holder t (text_of message o.original)) reason 1

  -- what a message comes to that asks this
  abbrev pub handled : Asked → Submitted
  handled Garbled = unchanged t refusal.Garbled
  handled (Refused r) = faulted r
  handled (Enters o) = entering o (new_stands t message o)
  handled (Replaces o) = replacing o (replace_stands t message o)
  handled (Cancels o) = canceling o (cancel_stands t message o)

-- room is the length of the report area; the call for bonds takes a market of bonds, and that for equities one of equities; no
-- message is taken above this number, so that its work cannot run out of numbers
unfoldable pub submitted : Instrument → List ℕ → List ℕ → ℕ → Submitted
submitted q t message room =
    cond (ltb room room_asked) (unchanged t refusal.NoRoom)
    (cond (not (is_market_of q t)) (unchanged t refusal.NoMarket)
    (cond (not (eqb (work_of t) 0)) (unchanged t refusal.InWork)
    (cond (ltb 999998976 (next_of t)) (unchanged t refusal.NumbersSpent)
    (handled t message (asked_of (instrument_of t) (venue_of t) (port_of t) message)))))

-- the paper's number: of a report, and of a refusal
abbrev pub reply_number : ReplyKind → ℕ
reply_number SessionReject = 6
reply_number OrderReject = 7
reply_number ChangeReject = 8
reply_number Taken = 0

abbrev pub submit_number : Result Reply Refusal → ℕ
submit_number (Ok r) = reply_number r.kind
submit_number (Err r) = number_of r

-- the length of the report, 0 where none is written
abbrev pub submit_length : Result Reply Refusal → ℕ
submit_length (Ok r) = r.len
submit_length (Err r) = 0
