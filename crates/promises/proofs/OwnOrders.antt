-- A message that is taken as a new order puts the same order in work on any two markets, and leaves the side that it is matched with as it
-- is; so own orders cost it no fills.
use mathlib.Core.Path.{◌≡◌, refl, ap, ◌∙◌}
use mathlib.Core.Bool.{Bool, true, false, cond}
use mathlib.Core.List.{List, [], ◌∷◌, ◌++◌}
use mathlib.Core.Logic.{◌≢◌}
use Prim.Native.Nat.{ℕ, ◌+◌, ◌*◌, ◌≤◌, ◌<◌}
use native.Mathlib.Omega.{arith}
use lib.Dec.{lit≤}
use lib.ListN.{length, replicate}
use Rattle.octets.specs.Octets.{bytes_of, text_bytes}
use Rattle.octets.proofs.Bools.{split, not_both}
use Rattle.octets.proofs.Places.{length_bytes_of}
use Rattle.octets.proofs.Parts.{length_text_bytes}
use Rattle.decimal.specs.declared.Instrument.{Instrument}
use Rattle.decimal.proofs.Times.{time_short}
use Rattle.request.specs.declared.NewOrder.{NewOrder}
use Rattle.request.specs.declared.Asked.TheVariants.{Enters}
use Rattle.matching.specs.declared.Order.{Order}
use Rattle.matching.specs.declared.Event.TheVariants.{Accepted}
use Rattle.matching.specs.Matching.{Book, at, open_of, buys, minimum_of, change, after}
use Rattle.matching.specs.Held.{In, Takes, anew, over}
use Rattle.matching.specs.Depth.{stands}
use Rattle.matching.proofs.Books.{at_new, open_in}
use Rattle.matching.proofs.Events.{after_here}
use Rattle.matching.proofs.Conserved.{takes_low, takes_high}
use Rattle.matching.proofs.Requests.{takes_in}
use Rattle.matching.proofs.InTurn.{stands_side, stands_open, closed_stands}
use Rattle.matching.proofs.Withdrawing.{Still, event_still}
use Rattle.table.specs.declared.record.Marks.{Marks}
use Rattle.table.specs.Heading.{next_of, work_of, instrument_of, decided_of, mode_of, put_work}
use Rattle.table.specs.Orders.{cl_ord_id_at, order_id_at, book_of, record_for, record_of, accepted}
use Rattle.table.specs.Market.{is_market_of}
use Rattle.table.specs.Best.{clear_best}
use Rattle.table.specs.Changes.{numbered, entered}
use Rattle.table.proofs.Same.{Same, same_in, same_then, put_below, put_above, mode_of_same, decided_same}
use Rattle.table.proofs.Stores.{length_record}
use Rattle.table.proofs.Kept.{idle_decided, new_heading}
use Rattle.table.proofs.Facts.{market_facts}
use Rattle.table.proofs.Instruments.{of_market, market_instrument}
use Rattle.report.specs.declared.Kind.TheVariants as kind
use Rattle.report.specs.Reports.{read_of}
use Rattle.std.specs.Prelude.{Result, Ok, Err}
use Rattle.calls.specs.declared.OrderReason.{OrderReason}
use Rattle.calls.specs.Checks.{text_of, new_stands}
use Rattle.calls.specs.Submit.{marks_of, new_order_of, new_rejected, rejecting, new_taken, entering, handled, submitted, submit_number}
use Rattle.intake.specs.Intake.{Asking}
use Rattle.intake.proofs.Standing.{new_named, new_account, new_account_short, new_marked, new_enters, new_time}
use Rattle.intake.proofs.Theorems.{submit_keeps}
use Rattle.intake.proofs.Keeping.{Comes, no_room, no_market, in_work as busy, spent, heard, comes}
use Rattle.promises.specs.History.{Call, Submit, table_after, reports_after, no_submit}
use Rattle.promises.specs.OwnOrders.{is_resting, fills_in, first_id, SameFills, other_side, StandsClear, TakenAs}
use Rattle.promises.proofs.Requested.{book_working, ids_working, long_accepted, book_accepted, id_accepted}
use Rattle.promises.proofs.Putting.{decided_working, work_working}
use Rattle.promises.proofs.Telling.{all_told}
use Rattle.promises.proofs.Standing.{account_since}
use Rattle.promises.proofs.Fills.{SameId, other_id, numbered_id, working_id, cleared_id, id_kept, Fillings}
use Rattle.promises.proofs.Filled.{after_fills}
use Rattle.promises.proofs.Alike.{PutAs, TalliedAs, same_told}

-- ---- a new order that is taken

-- what its Submit leaves: u, with the reports rs
pub record EnteredAs (q : Instrument) (t message : List ℕ) (o : NewOrder) (u : List ℕ) (rs : List (List ℕ)) : Type 0 where
  pub number : ℕ
  pub takes : Takes (book_of t) number
  pub book : book_of u ≡ after (book_of t) (Accepted number (new_order_of t message o))
  pub some : 0 < open_of (new_order_of t message o)
  pub work : work_of u ≡ number
  pub modes : (mpid : ℕ) → mode_of u mpid ≡ mode_of t mpid
  pub decided : decided_of u ≡ 0
  pub ids : (i : ℕ) → 1 ≤ i → i ≢ number → SameId u t i
  pub order_id : order_id_at u number ≡ next_of t
  pub first : first_id q rs ≡ next_of t
  pub silent : fills_in q rs ≡ []

-- what is put in work leaves the MPIDs and modes, and the ClOrdIDs of all other records
pub working_modes : (u : List ℕ) (k : ℕ) (stamp : List ℕ) → length stamp ≤ 21 → Same (clear_best (put_work (numbered u 1) k stamp)) u 56 96
unfolding numbered
working_modes u k stamp short =
    same_then (put_below (put_work (numbered u 1) k stamp) 97 (replicate 31 0) 56 96 (lit≤ tt))
    (same_then (put_above (numbered u 1) 32 (k ∷ text_bytes 21 stamp) 56 96 (omega (arith, length_text_bytes 21 stamp short)))
    (put_above u 28 (bytes_of 4 (next_of u + 1)) 56 96 (omega (arith, length_bytes_of 4 (next_of u + 1)))))

pub working_ids : (u : List ℕ) (k : ℕ) (stamp : List ℕ) → length stamp ≤ 21 → (i : ℕ) → 1 ≤ i → SameId (clear_best (put_work (numbered u 1) k stamp)) u i
working_ids u k stamp short i l =
    same_then (cleared_id (put_work (numbered u 1) k stamp) i l) (same_then (working_id (numbered u 1) i l k stamp short) (numbered_id u i l 1))

accepted_ids : (t : List ℕ) (k n : ℕ) (cl_ord_id account : List ℕ) (marks : Marks) (o : Order) → length cl_ord_id ≤ 32 → length account ≤ 10 → 128 * k + 128 ≤ length t
    → (i : ℕ) → i ≢ k → SameId (accepted t k n cl_ord_id account marks o) t i
unfolding accepted
accepted_ids t k n cl_ord_id account marks o short few room i d =
    other_id t i k (record_of n cl_ord_id account marks o) d (omega (arith, length_record t k n cl_ord_id account marks o short few room))

accepted_silent : (q : Instrument) (r : List ℕ) → (read_of q r).kind ≡ kind.Accepted → fills_in q (r ∷ []) ≡ []
unfolding fills_in is_resting
accepted_silent q r e = rw e

module _ (t message : List ℕ) (o : NewOrder) (q : Instrument) where
  new_entered : Asking t message (Enters o) → new_stands t message o ≡ Ok tt → instrument_of t ≡ q → EnteredAs q t message o (new_taken t message o).table (new_taken t message o).reports
  unfolding new_taken entered open_of
  new_entered a s z =
      let few = new_account_short t message o a in
      let printable = new_account t message o a in
      let marked = new_marked t message o a in
      let g = new_named t message o a s in
      let n = new_enters t message o a s in
      let k : ℕ = record_for t in
      let id = text_of message o.id in
      let account = text_of message o.account in
      let x : Order = new_order_of t message o in
      let u : List ℕ = accepted t k (next_of t) id account (marks_of o) x in
      let stamp = text_of message o.time in
      let short = time_short stamp (new_time t message o a) in
      let long = long_accepted t k id account (marks_of o) x a.market g few printable marked n in
      let top : Same u t 0 128 = new_heading t k id account (marks_of o) x a.market g few printable marked n in
      let own = id_accepted t k id account (marks_of o) x a.market g few printable marked n in
      let tells = (all_told q).new t message o a z s in
      record {
        number = k;
        takes = n.number;
        book = book_working u 1 k stamp long short ∙ book_accepted t k id account (marks_of o) x a.market g few printable marked n;
        some = omega (arith, n.sound.qty_low);
        work = work_working u 1 k stamp long short;
        modes = mode_of_same (same_then (working_modes u k stamp short) (same_in 56 96 top (lit≤ tt) (lit≤ tt)));
        decided = decided_working u 1 k stamp short ∙ decided_same (same_in 96 97 top (lit≤ tt) (lit≤ tt)) ∙ idle_decided t a.market a.idle;
        ids = λ i l d.
            same_then (working_ids u k stamp short i l)
            (accepted_ids t k (next_of t) id account (marks_of o) x g.short few (omega (arith, a.market.long, n.free)) i d);
        order_id = ids_working u 1 k stamp short k ∙ own;
        first = tells.order ∙ own;
        silent = accepted_silent q _ tells.kind;
      }

  entering_entered : (s : Result (Unit {0}) OrderReason) → new_stands t message o ≡ s → Asking t message (Enters o) → instrument_of t ≡ q → submit_number (entering t message o s).answer ≡ 0
      → EnteredAs q t message o (entering t message o s).table (entering t message o s).reports
  unfolding new_rejected rejecting
  entering_entered (Ok stands) e a z n = new_entered a e z
  entering_entered (Err r) e a z n = absurd (omega arith)

  pub taken_entered : (room : ℕ) → TakenAs q t message room o → EnteredAs q t message o (submitted q t message room).table (submitted q t message room).reports
  taken_entered room x = by (comes q t message room)
    where
      by : Comes q t message room → EnteredAs q t message o (submitted q t message room).table (submitted q t message room).reports
      by (no_room a e) = absurd (let n : ◌≡◌ {A = ℕ} 1 0 = rw e at x.taken in omega arith)
      by (no_market a n e) = absurd (let n : ◌≡◌ {A = ℕ} 2 0 = rw e at x.taken in omega arith)
      by (busy a n w e) = absurd (let n : ◌≡◌ {A = ℕ} 3 0 = rw e at x.taken in omega arith)
      by (spent a n w h e) = absurd (let n : ◌≡◌ {A = ℕ} 4 0 = rw e at x.taken in omega arith)
      by (heard a n y e) =
          let f : submitted q t message room ≡ entering t message o (new_stands t message o) = e ∙ ap (handled t message) x.asks in
          rw f (entering_entered (new_stands t message o) refl (rw x.asks at y) (market_instrument q t n) (rw f at x.taken))

-- ---- the same order on both markets

-- a number that an order may take has nothing open
takes_shut : (b : Book) (n : ℕ) → Takes b n → open_of (at b n) ≡ 0
unfolding open_of
takes_shut b n (anew e) = rw (e, at_new b)
takes_shut b n (over i z) = z

-- it leaves the side that it is matched with
module _ (q : Instrument) (t message : List ℕ) (o : NewOrder) (u : List ℕ) (rs : List (List ℕ)) (m : is_market_of q t ≡ true) (x : EnteredAs q t message o u rs) where
  abbrev order : Order
  order = new_order_of t message o

  abbrev side : ℕ
  side = other_side o.terms.side

  abbrev k : ℕ
  k = x.number

  low : 0 < k
  low = takes_low (book_of t) k x.takes

  pub order_here : at (book_of u) k ≡ order
  unfolding change
  order_here = rw x.book (after_here (book_of t) (Accepted k order) low (takes_high (book_of t) k x.takes))

  pub order_in : In (book_of u) k
  unfolding after change
  order_in = rw x.book (takes_in (book_of t) k order x.takes)

  -- it stands there itself neither before nor after
  before_not : stands side (at (book_of t) k) ≡ false
  before_not = closed_stands side (at (book_of t) k) (takes_shut (book_of t) k x.takes)

  after_not : stands side (at (after (book_of t) (Accepted k order)) k) ≡ false
  unfolding change
  after_not =
      rw (after_here (book_of t) (Accepted k order) low (takes_high (book_of t) k x.takes))
      (split (stands side order) (λ e. absurd (wrong (buys o.terms.side) (stands_side side order e))) (λ e. e))
    where
      wrong : (y : Bool) → y ≡ buys (cond y 2 1) → ⊥
      wrong true e = not_both refl e
      wrong false e = not_both e refl

  pub entered_still : Still side (cl_ord_id_at t) (book_of t) (cl_ord_id_at u) (book_of u)
  entered_still =
      rw x.book
      (event_still side (cl_ord_id_at t) (book_of t) (Accepted k order) (cl_ord_id_at u) low (takes_high (book_of t) k x.takes) before_not after_not
      (λ i e d.
      let h = open_in (book_of t) i (stands_open side (at (book_of t) i) e) in
      id_kept t u (market_facts t (of_market q t m)) i h (x.ids i h.low d)))

  -- so it is put in work
  pub entered_put : PutAs q t u rs order
  entered_put =
      record {
        number = k;
        inside = order_in;
        here = order_here;
        some = x.some;
        uncanceled = refl;
        work = x.work;
        modes = x.modes;
        decided = x.decided;
        still = entered_still;
        silent = x.silent;
      }

-- ---- with nothing but calls: the message is taken on both markets, and any Runs follow until nothing is in work
module _ (q : Instrument) (message : List ℕ) (o : NewOrder) where
  -- the account of the order on one of them
  module _ (t : List ℕ) (room : ℕ) (later : List Call) (m : is_market_of q t ≡ true) (x : EnteredAs q t message o (submitted q t message room).table (submitted q t message room).reports) where
    abbrev u : List ℕ
    u = (submitted q t message room).table

    abbrev rs : List (List ℕ)
    rs = (submitted q t message room).reports

    id_is : (ss : List (List ℕ)) → first_id q (rs ++ ss) ≡ next_of t
    id_is ss = first_append rs (omega (arith, x.first, (market_facts t (of_market q t m)).next_low)) ∙ x.first
      where
        first_append : (rs : List (List ℕ)) → 0 < first_id q rs → first_id q (rs ++ ss) ≡ first_id q rs
        first_append [] h = absurd (omega arith)
        first_append (r ∷ rs) h = refl

    new_tallied : Fillings q u (table_after q u later) (reports_after q u later) → TalliedAs q (rs ++ reports_after q u later) (at (book_of (table_after q u later)) x.number)
    unfolding table_after reports_after
    new_tallied f =
        let h = order_in q t message o u rs m x in
        let e =
        account_since q (Submit message room ∷ later) t x.number m
        (record { low = h.low; high = omega (arith, h.high, f.by.size) })
        (f.by.steps.ids x.number ∙ x.order_id) in
        record { left = rw (id_is (reports_after q u later), e); cancels = rw (id_is (reports_after q u later), e) }

  pub taken_alike : (t a : List ℕ) (room area : ℕ) (later others : List Call) → is_market_of q t ≡ true → is_market_of q a ≡ true
      → StandsClear (other_side o.terms.side) o.terms.mpid t a → mode_of t o.terms.mpid ≡ 2 → mode_of a o.terms.mpid ≡ 2
      → TakenAs q t message room o → TakenAs q a message area o → no_submit later ≡ true → no_submit others ≡ true
      → work_of (table_after q t (Submit message room ∷ later)) ≡ 0 → work_of (table_after q a (Submit message area ∷ others)) ≡ 0
      → SameFills q (reports_after q t (Submit message room ∷ later)) (reports_after q a (Submit message area ∷ others))
  unfolding table_after reports_after minimum_of open_of entered_put
  taken_alike t a room area later others m n h two there x y d e z i =
      let u : List ℕ = (submitted q t message room).table in
      let b : List ℕ = (submitted q a message area).table in
      let f = after_fills q later u (submit_keeps q t message room m) d in
      let g = after_fills q others b (submit_keeps q a message area n) e in
      let k = taken_entered t message o q room x in
      let l = taken_entered a message o q area y in
      same_told q t u (table_after q u later) (submitted q t message room).reports (reports_after q u later)
      a b (table_after q b others) (submitted q a message area).reports (reports_after q b others) (new_order_of t message o) (new_order_of a message o)
      (record { side = refl; level = refl; tif = refl; minimum = refl; mpid = refl; quantity = refl })
      (entered_put q t message o u (submitted q t message room).reports m k) (entered_put q a message o b (submitted q a message area).reports n l) two there f g z i h
      (new_tallied t room later m k f) (new_tallied a area others n l g)
