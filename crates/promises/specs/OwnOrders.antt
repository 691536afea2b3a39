-- Own orders cost no fills, told by ClOrdIDs and by the bytes of reports (document 02, T-10): two markets with nothing in work, on the
-- second of which the orders of an MPID are out of the way; a message that both take as a new order; and what the reports of each tell
-- of its trades, of what is left of it and of what was given back. Assumes nothing.
use Rattle.std.specs.Prelude.{◌≡◌, Bool, cond, ◌&&◌, List, [], ◌∷◌, map, ℕ, ◌+◌, eqb}
use Rattle.decimal.specs.declared.Instrument.{Instrument}
use Rattle.request.specs.declared.NewOrder.{NewOrder}
use Rattle.request.specs.declared.Replacement.{Replacement}
use Rattle.request.specs.declared.Asked.TheVariants.{Enters, Replaces}
use Rattle.request.specs.Asks.{asked_of}
use Rattle.matching.specs.declared.Order.{Order}
use Rattle.matching.specs.Matching.{at, buys}
use Rattle.matching.specs.OutOfTheWay.{OutOfTheWay}
use Rattle.table.specs.Heading.{instrument_of, venue_of, port_of}
use Rattle.table.specs.Orders.{cl_ord_id_at, book_of}
use Rattle.report.specs.declared.Value.{Value}
use Rattle.report.specs.declared.Value.TheVariants.{Absent}
use Rattle.report.specs.declared.Field.{Field}
use Rattle.report.specs.declared.Kind.TheVariants.{Canceled}
use Rattle.report.specs.declared.Reading.{Reading}
use Rattle.report.specs.Fields.{value_bytes}
use Rattle.report.specs.Reports.{read_of}
use Rattle.readback.specs.Says.{says}
use Rattle.calls.specs.Checks.{text_of, holder}
use Rattle.calls.specs.Submit.{submitted, submit_number}
use Rattle.promises.specs.History.{Call, Submit, Run, Load, Depth, Top, Read, table_of, reports_of}
use Rattle.promises.specs.Tallies.{is_trade, account_of}

-- ---- what reports tell of trades

-- the value of the first field with this tag; none where there is no such field
abbrev pub value_in : ℕ → List Field → Value
value_in tag [] = Absent
value_in tag (f ∷ fs) = cond (eqb f.tag tag) f.value (value_in tag fs)

-- the bytes of a report's field, by what Read gives of it
unfoldable pub text_in : Instrument → ℕ → List ℕ → List ℕ
text_in q tag report = value_bytes report [] (value_in tag (read_of q report).fields)

-- the Trade of a resting order: 851=1
unfoldable pub is_resting : Reading → Bool
is_resting r = is_trade r.kind && eqb (says 851 r) 1

-- a trade as the report of the resting order tells it: 11, 32 and 31
pub record Fill : Type 0 where
  pub cl_ord_id : List ℕ
  pub quantity : ℕ
  pub price : List ℕ

-- the trades that reports tell, in turn
unfoldable pub fills_in : Instrument → List (List ℕ) → List Fill
fills_in q [] = []
fills_in q (r ∷ rs) =
    cond (is_resting (read_of q r))
    (record { cl_ord_id = text_in q 11 r; quantity = says 32 (read_of q r); price = text_in q 31 r } ∷ fills_in q rs)
    (fills_in q rs)

-- the OrderID of the order that the first report is of
abbrev pub first_id : Instrument → List (List ℕ) → ℕ
first_id q [] = 0
first_id q (r ∷ rs) = says 37 (read_of q r)

-- reports rs of one market and ss of another, each from the Accepted or Replaced of an order on: the same trades in turn; and by the order's account
-- the same is left open, and the same was canceled: the rest of an order that may not rest, or all of it for want of its minimum
pub record SameFills (q : Instrument) (rs ss : List (List ℕ)) : Type 0 where
  pub trades : fills_in q ss ≡ fills_in q rs
  pub left : (account_of (first_id q ss) (map (read_of q) ss)).left ≡ (account_of (first_id q rs) (map (read_of q) rs)).left
  pub back : (account_of (first_id q ss) (map (read_of q) ss)).cancels ≡ (account_of (first_id q rs) (map (read_of q) rs)).cancels

-- ---- markets

-- the side that an order of this side is matched with: 1 the buys, 2 the sells
abbrev pub other_side : ℕ → ℕ
other_side side = cond (buys side) 2 1

-- market u stands to market t as one on which the orders of an MPID on a side are out of the way
abbrev pub StandsClear : ℕ → ℕ → List ℕ → List ℕ → Type 0
StandsClear side mpid t u = OutOfTheWay side mpid (cl_ord_id_at t) (book_of t) (cl_ord_id_at u) (book_of u)

-- the message asks a market for a new order, and is taken
pub record TakenAs (q : Instrument) (t message : List ℕ) (room : ℕ) (o : NewOrder) : Type 0 where
  pub asks : asked_of (instrument_of t) (venue_of t) (port_of t) message ≡ Enters o
  pub taken : submit_number (submitted q t message room).answer ≡ 0

-- the message asks a market for a replacement, and is taken
pub record RenewedAs (q : Instrument) (t message : List ℕ) (room : ℕ) (o : Replacement) : Type 0 where
  pub asks : asked_of (instrument_of t) (venue_of t) (port_of t) message ≡ Replaces o
  pub taken : submit_number (submitted q t message room).answer ≡ 0

-- the order that it replaces: the one that has its 41
abbrev pub replaced_on : List ℕ → List ℕ → Replacement → Order
replaced_on t message o = at (book_of t) (holder t (text_of message o.original))

-- two orders that one replacement makes the same: side, time in force, MinQty and MPID, and what is executed and decremented together
pub record Alike (o p : Order) : Type 0 where
  pub side : o.side ≡ p.side
  pub tif : o.tif ≡ p.tif
  pub minqty : o.minqty ≡ p.minqty
  pub mpid : o.mpid ≡ p.mpid
  pub used : o.executed + o.decremented ≡ p.executed + p.decremented

-- ---- cancels

-- a message is answered with a Canceled of an order of this MPID
abbrev pub Cancels : Instrument → ℕ → List (List ℕ) → Type 0
Cancels q mpid [] = ⊥
Cancels q mpid (r ∷ rs) = ((read_of q r).kind ≡ Canceled) × (says 109 (read_of q r) ≡ mpid)

-- calls from table t on, of which each is a message that is answered so
abbrev pub AllCancel : Instrument → ℕ → List ℕ → List Call → Type 0
AllCancel q mpid t [] = Unit {0}
AllCancel q mpid t (Submit message room ∷ cs) =
    Cancels q mpid (reports_of q t (Submit message room)) × AllCancel q mpid (table_of q t (Submit message room)) cs
AllCancel q mpid t (Run room budget ∷ cs) = ⊥
AllCancel q mpid t (Load buffer room ∷ cs) = ⊥
AllCancel q mpid t (Depth side k ∷ cs) = ⊥
AllCancel q mpid t (Top side ∷ cs) = ⊥
AllCancel q mpid t (Read report ∷ cs) = ⊥
