-- What the report of an event says when it is read (document 01, "The reports", from which Demand 3 takes its tallies; document 02,
-- T-05, T-08 and T-09): its kind, the OrderID and the numbers of the order after the event, with 32, 375, 851 and 880 of a trade and 378 of
-- what prevention, a minimum that is not reached or the end of an immediate order did. Assumes nothing.
use Rattle.std.specs.Prelude.{ℕ, ◌-◌, ◌≡◌, cond, List, eqb}
use Rattle.matching.specs.declared.Event.{Event}
use Rattle.matching.specs.declared.Event.TheVariants.{Accepted, Replaced, Withdrawn, Canceled, Decremented, Traded, Killed, Expired}
use Rattle.matching.specs.Matching.{open_of, who}
use Rattle.table.specs.Heading.{work_of, instrument_of}
use Rattle.table.specs.Orders.{order_id_at, cash_at, margin_at, order_at}
use Rattle.report.specs.declared.Kind.{Kind}
use Rattle.report.specs.declared.Kind.TheVariants as kind
use Rattle.report.specs.declared.Reading.{Reading}
use Rattle.readback.specs.Says.{says, other_said}

-- the kind of report that an event has
abbrev pub kind_told : Event → Kind
kind_told (Accepted i o) = kind.Accepted
kind_told (Replaced i l q p) = kind.Replaced
kind_told (Withdrawn i q) = kind.Canceled
kind_told (Canceled i q) = kind.Canceled
kind_told (Decremented i q) = kind.Replaced
kind_told (Traded i m q l) = kind.Trade
kind_told (Killed i q) = kind.Canceled
kind_told (Expired i q) = kind.Canceled

-- its 378: 100 by prevention, 99 for an order killed for want of its minimum and for an immediate order's rest, 0 where it is absent
abbrev pub reason_told : Event → ℕ
reason_told (Accepted i o) = 0
reason_told (Replaced i l q p) = 0
reason_told (Withdrawn i q) = 0
reason_told (Canceled i q) = 100
reason_told (Decremented i q) = 100
reason_told (Traded i m q l) = 0
reason_told (Killed i q) = 99
reason_told (Expired i q) = 99

-- its 32, what was traded: 0 where nothing was
abbrev pub quantity_told : Event → ℕ
quantity_told (Accepted i o) = 0
quantity_told (Replaced i l q p) = 0
quantity_told (Withdrawn i q) = 0
quantity_told (Canceled i q) = 0
quantity_told (Decremented i q) = 0
quantity_told (Traded i m q l) = q
quantity_told (Killed i q) = 0
quantity_told (Expired i q) = 0

-- its 375, the other's MPID in a trade of bonds, 0 for none
abbrev pub other_told : List ℕ → Event → ℕ
other_told t (Accepted i o) = 0
other_told t (Replaced i l q p) = 0
other_told t (Withdrawn i q) = 0
other_told t (Canceled i q) = 0
other_told t (Decremented i q) = 0
other_told t (Traded i m q l) = other_said (instrument_of t) (order_at t m).mpid
other_told t (Killed i q) = 0
other_told t (Expired i q) = 0

-- its 851 in a trade: 1 of the resting order, 2 of the order in work; 0 where nothing was traded
abbrev pub liquidity_told : List ℕ → Event → ℕ
liquidity_told t (Accepted i o) = 0
liquidity_told t (Replaced i l q p) = 0
liquidity_told t (Withdrawn i q) = 0
liquidity_told t (Canceled i q) = 0
liquidity_told t (Decremented i q) = 0
liquidity_told t (Traded i m q l) = cond (eqb i (work_of t)) 2 1
liquidity_told t (Killed i q) = 0
liquidity_told t (Expired i q) = 0

-- its 880 in a trade, the number of the pair's first report: that of the resting order itself, and the one before that of the order in
-- work; 0 where nothing was traded
abbrev pub pair_told : List ℕ → ℕ → Event → ℕ
pair_told t n (Accepted i o) = 0
pair_told t n (Replaced i l q p) = 0
pair_told t n (Withdrawn i q) = 0
pair_told t n (Canceled i q) = 0
pair_told t n (Decremented i q) = 0
pair_told t n (Traded i m q l) = cond (eqb i (work_of t)) (n - 1) n
pair_told t n (Killed i q) = 0
pair_told t n (Expired i q) = 0

-- report number n of event e, the table after it being t
pub record SaysEvent (t : List ℕ) (n : ℕ) (e : Event) (r : Reading) : Type 0 where
  pub is_kind : r.kind ≡ kind_told e
  pub says_34 : says 34 r ≡ n
  pub says_17 : says 17 r ≡ n
  pub says_37 : says 37 r ≡ order_id_at t (who e)
  pub says_38 : says 38 r ≡ (order_at t (who e)).qty
  pub says_14 : says 14 r ≡ (order_at t (who e)).executed
  pub says_151 : says 151 r ≡ open_of (order_at t (who e))
  pub says_54 : says 54 r ≡ (order_at t (who e)).side
  pub says_59 : says 59 r ≡ (order_at t (who e)).tif
  pub says_109 : says 109 r ≡ (order_at t (who e)).mpid
  pub says_110 : says 110 r ≡ (order_at t (who e)).minqty
  pub says_544 : says 544 r ≡ cash_at t (who e)
  pub says_8214 : says 8214 r ≡ margin_at t (who e)
  pub says_378 : says 378 r ≡ reason_told e
  pub says_32 : says 32 r ≡ quantity_told e
  pub says_375 : says 375 r ≡ other_told t e
  pub says_851 : says 851 r ≡ liquidity_told t e
  pub says_880 : says 880 r ≡ pair_told t n e
