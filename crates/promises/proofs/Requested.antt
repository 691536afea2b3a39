-- The book after a request that is taken, before the next number and what is in work change, is the book after its event; a new order has
-- the next number as its OrderID, and no other OrderID changes.
use mathlib.Core.Path.{◌≡◌, refl, ap, ◌∙◌}
use mathlib.Core.Bool.{true}
use mathlib.Core.List.{List}
use mathlib.Core.Logic.{◌≢◌}
use Prim.Native.Nat.{ℕ, ◌+◌, ◌*◌, ◌≤◌}
use native.Mathlib.Omega.{arith}
use lib.Dec.{lit≤}
use lib.ListN.{length, replicate}
use Rattle.octets.proofs.Places.{length_put}
use Rattle.matching.specs.declared.Order.{Order}
use Rattle.matching.specs.declared.Event.{Event}
use Rattle.matching.specs.declared.Event.TheVariants.{Accepted, Replaced, Withdrawn}
use Rattle.matching.specs.Matching.{Book, at, open_of, who, change, after}
use Rattle.matching.specs.Held.{In, Ready, Enters, Renews}
use Rattle.table.specs.declared.record.Marks.{Marks}
use Rattle.table.specs.Places.{table_bytes, record_at}
use Rattle.table.specs.Heading.{next_of, instrument_of, is_listed, put_work}
use Rattle.table.specs.Orders.{order_id_at, order_at, filled, book_of, put_id, put_terms, applied, withdrawn, replaced, accepted}
use Rattle.table.specs.Best.{book_row, put_best, clear_best}
use Rattle.table.specs.Market.{every, is_printable, is_marked}
use Rattle.table.specs.Facts.{Market, Named}
use Rattle.table.specs.Changes.{numbered}
use Rattle.table.proofs.Stores.{Terms, accepted_order_id}
use Rattle.table.proofs.Books.{length_book, at_book}
use Rattle.table.proofs.Frames.{Formed, market_formed, framed_long}
use Rattle.table.proofs.Applied.{book_applied, framed_applied, book_terms, framed_terms, book_next, book_work, book_best}
use Rattle.table.proofs.Bests.{length_book_row}
use Rattle.table.proofs.Naming.{named_formed, named_book, named_order, named_filled}
use Rattle.table.proofs.Instruments.{instrument_below}
use Rattle.table.proofs.Kept.{renewed_terms, new_formed, new_book, new_instrument}
use Rattle.table.proofs.OrderIds.{numbered_order_id, worked_order_id, told_order_id, cleared_order_id, accepted_others}

-- ---- the heading changes, the book does not
pub long_numbered : (t : List ℕ) (n : ℕ) → length t ≡ table_bytes → length (numbered t n) ≡ table_bytes
unfolding numbered
long_numbered t n h = length_put t _ _ ∙ h

pub book_numbered : (t : List ℕ) (n : ℕ) → length t ≡ table_bytes → book_of (numbered t n) ≡ book_of t
unfolding numbered
book_numbered t n h = book_next t _ h

-- with an order in work, and no best levels
long_working : (t : List ℕ) (n w : ℕ) (stamp : List ℕ) → length t ≡ table_bytes → length (put_work (numbered t n) w stamp) ≡ table_bytes
long_working t n w stamp h = length_put (numbered t n) _ _ ∙ long_numbered t n h

pub book_working : (t : List ℕ) (n w : ℕ) (stamp : List ℕ) → length t ≡ table_bytes → length stamp ≤ 21
    → book_of (clear_best (put_work (numbered t n) w stamp)) ≡ book_of t
book_working t n w stamp h short =
    book_best (put_work (numbered t n) w stamp) (replicate 31 0) (long_working t n w stamp h) (lit≤ tt)
    ∙ book_work (numbered t n) w stamp (long_numbered t n h) short ∙ book_numbered t n h

-- with the best levels
pub book_told : (t : List ℕ) (n : ℕ) → length t ≡ table_bytes → book_of (put_best (numbered t n)) ≡ book_of t
book_told t n h =
    book_best (numbered t n) (book_row (numbered t n)) (long_numbered t n h) (omega (arith, length_book_row (numbered t n))) ∙ book_numbered t n h

-- nor does any OrderID
pub ids_working : (t : List ℕ) (n w : ℕ) (stamp : List ℕ) → length stamp ≤ 21
    → (i : ℕ) → order_id_at (clear_best (put_work (numbered t n) w stamp)) i ≡ order_id_at t i
ids_working t n w stamp short i =
    cleared_order_id (put_work (numbered t n) w stamp) i ∙ worked_order_id (numbered t n) i w stamp short ∙ numbered_order_id t i n

pub ids_told : (t : List ℕ) (n : ℕ) (i : ℕ) → order_id_at (put_best (numbered t n)) i ≡ order_id_at t i
ids_told t n i = told_order_id (numbered t n) i ∙ numbered_order_id t i n

-- ---- a new order, with the next number as its OrderID
module _ (t : List ℕ) (k : ℕ) (cl_ord_id account : List ℕ) (marks : Marks) (o : Order) (m : Market t) (g : Named t cl_ord_id) (few : length account ≤ 10)
    (printable : every is_printable account ≡ true) (marked : is_marked (instrument_of t) marks ≡ true)
    (a : Enters (is_listed t) (next_of t) (book_of t) k o) where
  pub long_accepted : length (accepted t k (next_of t) cl_ord_id account marks o) ≡ table_bytes
  long_accepted = (new_formed t k cl_ord_id account marks o m g few printable marked a).long

  pub kind_accepted : instrument_of (accepted t k (next_of t) cl_ord_id account marks o) ≡ instrument_of t
  kind_accepted = new_instrument t k cl_ord_id account marks o m g few printable marked a

  pub book_accepted : book_of (accepted t k (next_of t) cl_ord_id account marks o) ≡ after (book_of t) (Accepted k o)
  book_accepted = new_book t k cl_ord_id account marks o m g few printable marked a

  room : record_at k + 128 ≤ length t
  room = omega (arith, m.long, a.free)

  pub id_accepted : order_id_at (accepted t k (next_of t) cl_ord_id account marks o) k ≡ next_of t
  id_accepted = accepted_order_id t k (next_of t) cl_ord_id account marks o g.short few room (omega (arith, a.numbered))

  pub ids_others : (i : ℕ) → i ≢ k → order_id_at (accepted t k (next_of t) cl_ord_id account marks o) i ≡ order_id_at t i
  ids_others = accepted_others t k (next_of t) cl_ord_id account marks o g.short few room

-- ---- what is traded is what was
pub kind_withdrawn : (t : List ℕ) (cl_ord_id : List ℕ) (e : Event) → 1 ≤ who e → instrument_of (withdrawn t cl_ord_id e) ≡ instrument_of t
unfolding withdrawn
kind_withdrawn t cl_ord_id e l = instrument_below (put_id t (who e) cl_ord_id) (128 * who e + 64) _ (omega arith) ∙ instrument_below t (128 * who e) _ (omega arith)

pub kind_replaced : (t : List ℕ) (cl_ord_id : List ℕ) (e : Event) → 1 ≤ who e → instrument_of (replaced t cl_ord_id e) ≡ instrument_of t
unfolding replaced
kind_replaced t cl_ord_id e l = instrument_below (put_id t (who e) cl_ord_id) (128 * who e + 48) _ (omega arith) ∙ instrument_below t (128 * who e) _ (omega arith)

-- ---- a change of order k
module _ (t : List ℕ) (k : ℕ) (cl_ord_id : List ℕ) (m : Market t) (i : In (book_of t) k) (g : Named t cl_ord_id) where
  high : k ≤ filled t
  high = omega (arith, i.high, length_book t)

  formed : Formed (put_id t k cl_ord_id)
  formed = named_formed t k cl_ord_id (market_formed t m) i.low high g

  book : book_of (put_id t k cl_ord_id) ≡ book_of t
  book = named_book t k cl_ord_id (market_formed t m) i.low high g

  order : order_at (put_id t k cl_ord_id) k ≡ order_at t k
  order = named_order t k cl_ord_id (market_formed t m) i.low high g k

  there : at (book_of t) k ≡ order_at t k
  there = at_book t k i.low high

  filled_there : filled (put_id t k cl_ord_id) ≡ filled t
  filled_there = named_filled t k cl_ord_id (market_formed t m) i.low high g

  -- a requested cancel
  module _ (q : ℕ) (e : q ≡ open_of (at (book_of t) k)) where
    ready : Ready (book_of (put_id t k cl_ord_id)) (Withdrawn k q)
    ready = rw book (record { inside = i; sound = m.held.sound k i; may = record { enough = omega (arith, e); priced = lit≤ tt } })

    applied_is : withdrawn t cl_ord_id (Withdrawn k q) ≡ applied (put_id t k cl_ord_id) (Withdrawn k q)
    unfolding withdrawn applied
    applied_is = rw order

    pub long_withdrawn : length (withdrawn t cl_ord_id (Withdrawn k q)) ≡ table_bytes
    long_withdrawn =
        ap length applied_is
        ∙ framed_long (put_id t k cl_ord_id) (applied (put_id t k cl_ord_id) (Withdrawn k q)) formed.long
        (framed_applied (put_id t k cl_ord_id) (Withdrawn k q) formed.long refl ready)

    pub book_withdrawn : book_of (withdrawn t cl_ord_id (Withdrawn k q)) ≡ after (book_of t) (Withdrawn k q)
    book_withdrawn =
        ap book_of applied_is ∙ book_applied (put_id t k cl_ord_id) (Withdrawn k q) formed.long refl ready
        ∙ ap (λ (c : Book). after c (Withdrawn k q)) book

  -- a replacement
  module _ (l q p : ℕ) (a : Renews (next_of t) (book_of t) k l q p) where
    changed : Order
    changed = change (Replaced k l q p) (order_at t k)

    widths : Terms changed
    unfolding changed
    widths = renewed_terms t k m i l q p a

    inside : k ≤ filled (put_id t k cl_ord_id)
    inside = omega (arith, filled_there, high)

    pub long_replaced : length (replaced t cl_ord_id (Replaced k l q p)) ≡ table_bytes
    unfolding replaced
    long_replaced =
        framed_long (put_id t k cl_ord_id) (put_terms (put_id t k cl_ord_id) k (change (Replaced k l q p) (order_at t k))) formed.long
        (framed_terms (put_id t k cl_ord_id) k (change (Replaced k l q p) (order_at t k)) formed.long i.low inside)

    pub book_replaced : book_of (replaced t cl_ord_id (Replaced k l q p)) ≡ after (book_of t) (Replaced k l q p)
    unfolding replaced after change changed
    book_replaced = book_terms (put_id t k cl_ord_id) k changed formed.long i.low inside widths ∙ rw (book, order, there)
