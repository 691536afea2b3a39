-- What holds of every table: opening makes a market of bonds or of equities, and whatever a call does to a market leaves a market
-- that trades the same. Each statement is about the test `is_market_of` on the bytes; the other files of this folder are only the way
-- to it.
use mathlib.Core.Path.{◌≡◌, refl, ◌∙◌}
use mathlib.Core.Bool.{true}
use mathlib.Core.List.{List}
use Prim.Native.Nat.{ℕ, ◌+◌, ◌≤◌}
use lib.ListN.{length}
use Rattle.decimal.specs.declared.Instrument.{Instrument}
use Rattle.decimal.specs.Instruments.{highest}
use Rattle.decimal.specs.Reading.{is_time}
use Rattle.matching.specs.declared.Order.{Order}
use Rattle.matching.specs.declared.Event.{Event}
use Rattle.matching.specs.declared.Event.TheVariants.{Replaced, Withdrawn}
use Rattle.matching.specs.Matching.{at, open_of, is_open, count_of}
use Rattle.matching.specs.Held.{In, Takes, Enters, Renews}
use Rattle.matching.specs.Quoted.{Quoted}
use Rattle.matching.proofs.Conserved.{takes_low}
use Rattle.table.specs.declared.record.Marks.{Marks}
use Rattle.table.specs.Heading.{next_of, work_of, instrument_of, is_listed}
use Rattle.table.specs.Orders.{book_of, record_for}
use Rattle.table.specs.Market.{every, is_printable, is_marked, is_market_of}
use Rattle.table.specs.Facts.{Market, Named}
use Rattle.table.specs.Changes.{numbered, stepped, entered, renewed, taken}
use Rattle.table.specs.Opened.{is_opening, opened}
use Rattle.table.proofs.Instruments.{of_market, market_instrument, instrument_market}
use Rattle.table.proofs.Facts.{market_facts, facts_market}
use Rattle.table.proofs.Lookups.{record_for_takes, refused_count, count_refused}
use Rattle.table.proofs.Opens.{opened_market}
use Rattle.table.proofs.Kept.{stepped_kept, numbered_kept, taken_kept, renewed_kept, entered_kept, stepped_instrument, numbered_instrument, taken_instrument, renewed_instrument, entered_instruments}

-- opening, where it is not refused, makes a market of what it is called for
pub opening_makes_a_market : (q : Instrument) (t venue port code : List ℕ) (first : ℕ) (mpids modes : List ℕ) → is_opening q t venue port code first mpids modes ≡ true
    → is_market_of q (opened q t venue port code first mpids modes) ≡ true
opening_makes_a_market = opened_market

-- the record that a new order is given is one that it may take, and there is none exactly if 255 orders are open
module _ (t : List ℕ) where
  pub record_is_free : 1 ≤ record_for t → Takes (book_of t) (record_for t)
  record_is_free l = record_for_takes t (record_for t) refl l

  pub refused_means_open : record_for t ≡ 0 → count_of is_open (book_of t) (length (book_of t)) ≡ 255
  refused_means_open = refused_count t

  pub open_means_refused : count_of is_open (book_of t) (length (book_of t)) ≡ 255 → record_for t ≡ 0
  open_means_refused = count_refused t

module _ (q : Instrument) (t : List ℕ) (m : is_market_of q t ≡ true) where
  -- the facts, and what is left of them by a change that trades the same
  facts : Market t
  facts = market_facts t (of_market q t m)

  still : (u : List ℕ) → Market u → instrument_of u ≡ instrument_of t → is_market_of q u ≡ true
  still u h e = instrument_market q u (facts_market u h) h.kind (e ∙ market_instrument q t m)

  -- one step of the order in work
  pub a_step_keeps : 1 ≤ work_of t → is_market_of q (stepped t) ≡ true
  a_step_keeps l = still (stepped t) (stepped_kept t facts l) (stepped_instrument t facts l)

  module _ (idle : work_of t ≡ 0) where
    -- a report about no order
    pub a_number_keeps : (n : ℕ) → next_of t + n ≤ 1000000000 → is_market_of q (numbered t n) ≡ true
    a_number_keeps n h = still (numbered t n) (numbered_kept t n facts idle h) (numbered_instrument t n)

    -- a new order, as a record that it may take
    pub a_new_order_keeps : (k : ℕ) (cl_ord_id account : List ℕ) (marks : Marks) (o : Order) (stamp : List ℕ) → Named t cl_ord_id
        → length account ≤ 10 → every is_printable account ≡ true → is_marked q marks ≡ true → Quoted q o
        → Enters (is_listed t) (next_of t) (book_of t) k o → is_time stamp ≡ true → is_market_of q (entered t k cl_ord_id account marks o stamp) ≡ true
    a_new_order_keeps k cl_ord_id account marks o stamp g few printable a x e time =
        let i = market_instrument q t m in
        still (entered t k cl_ord_id account marks o stamp)
        (entered_kept t k cl_ord_id account marks o facts g few printable (rw i a) e stamp (rw i x) idle time)
        (entered_instruments t k cl_ord_id account marks o stamp (takes_low (book_of t) k e.number) time)

    module _ (k : ℕ) (cl_ord_id : List ℕ) (i : In (book_of t) k) (g : Named t cl_ord_id) where
      -- a replacement of order k
      pub a_replacement_keeps : (l x p : ℕ) (stamp : List ℕ) → Renews (next_of t) (book_of t) k l x p → l ≤ highest q → is_time stamp ≡ true
          → is_market_of q (renewed t cl_ord_id (Replaced k l x p) stamp) ≡ true
      a_replacement_keeps l x p stamp r h time =
          still (renewed t cl_ord_id (Replaced k l x p) stamp)
          (renewed_kept t k cl_ord_id facts idle i g l x p stamp r (rw (market_instrument q t m) h) time)
          (renewed_instrument t cl_ord_id (Replaced k l x p) stamp i.low time)

      -- a requested cancel of order k
      pub a_cancel_keeps : next_of t ≤ 999998976 → is_market_of q (taken t cl_ord_id (Withdrawn k (open_of (at (book_of t) k)))) ≡ true
      a_cancel_keeps h =
          let e : Event = Withdrawn k (open_of (at (book_of t) k)) in
          still (taken t cl_ord_id e) (taken_kept t k cl_ord_id facts idle i g h) (taken_instrument t cl_ord_id e i.low)
