-- Events that happen one after the other to a table, and their reports: every account follows, by OrderID, and what is bought and sold,
-- if each report tells its event and each event is exact; and the two Trades of a step have one 880, and are not of one MPID.
use mathlib.Core.Path.{◌≡◌, refl, sym, ap, ◌∙◌}
use mathlib.Core.Bool.{Bool, true, false, cond, not}
use mathlib.Core.List.{List, [], ◌∷◌, map}
use mathlib.Core.Logic.{◌≢◌}
use Prim.Native.Nat.{ℕ, ◌+◌, ◌≤◌}
use native.Mathlib.Omega.{arith}
use lib.Dec.{eqb}
use lib.ListN.{length}
use borrow.Author.Tests.{eqb-true, eqb-false}
use Rattle.octets.proofs.Bools.{split}
use Rattle.matching.specs.declared.Order.{Order}
use Rattle.matching.specs.declared.Event.{Event}
use Rattle.matching.specs.declared.Event.TheVariants.{Accepted, Replaced, Withdrawn, Canceled, Decremented, Traded, Killed, Expired}
use Rattle.matching.specs.Matching.{Book, at, buys, is_buy, who, change, after, play}
use Rattle.matching.specs.Held.{In, Ready, Readies}
use Rattle.matching.specs.Accounts.{trades, bought as bought_by, sold as sold_by}
use Rattle.matching.specs.Happens.{moves}
use Rattle.matching.proofs.Events.{Terms, terms_of, change_terms, after_here, after_there}
use Rattle.table.specs.Places.{table_bytes}
use Rattle.table.specs.Orders.{order_id_at, order_at, book_of, applied}
use Rattle.table.proofs.Books.{length_book, at_book}
use Rattle.table.proofs.Frames.{Framed, framed_long, framed_filled}
use Rattle.table.proofs.OrderIds.{applied_order_id}
use Rattle.table.proofs.Applied.{AllMove, framed_applied, book_applied}
use Rattle.report.specs.declared.Reading.{Reading}
use Rattle.calls.specs.Run.{event_report, event_reports}
use Rattle.readback.specs.Says.{says}
use Rattle.readback.specs.Told.{pair_told}
use Rattle.promises.specs.Tallies.{Account, noted, account_from, sells, traded_for, traded, unread}
use Rattle.promises.proofs.Tells.{Exact, Tells, tells_read, account_in, account_before, before_moves, noted_here, noted_there}
use Rattle.promises.proofs.Exacts.{Exacts}

-- a report r tells event e on the table t after it
abbrev pub TellsOn : List ℕ → Event → Reading → Type 0
TellsOn t e r = Tells r (order_id_at t (who e)) e (order_at t (who e))

-- and report number n its pair
pub record TellsPair (t : List ℕ) (n : ℕ) (e : Event) (r : Reading) : Type 0 where
  pub event : TellsOn t e r
  pub pair : says 880 r ≡ pair_told t n e

-- the reports of events, numbered from n on, tell them in turn, as they are read
abbrev pub TellsAll : (List ℕ → Reading) → List ℕ → ℕ → List Event → Type 0
TellsAll read t n [] = Unit {0}
TellsAll read t n (e ∷ es) = TellsPair (applied t e) n e (read (event_report (applied t e) n e)) × TellsAll read (applied t e) (n + 1) es

-- ---- one event: u is the table after it
module _ (t u : List ℕ) (e : Event) (low : 1 ≤ who e) (high : who e ≤ length (book_of u)) (short : who e ≤ length (book_of t) + 1) (x : Exact (book_of t) e)
    (same : book_of u ≡ after (book_of t) e) (r : Reading) (tells : TellsOn u e r) where
  order_now : order_at u (who e) ≡ change e (at (book_of t) (who e))
  order_now =
      sym (at_book u (who e) low (omega (arith, length_book u)))
      ∙ ap (λ (b : Book). at b (who e)) same
      ∙ after_here (book_of t) e low (omega arith)

  -- the account of its OrderID, and of any other number
  pub account_here : noted (order_id_at u (who e)) (account_before (book_of t) e) r ≡ account_in (at (book_of u) (who e))
  account_here =
      let y : Tells r (order_id_at u (who e)) e (change e (at (book_of t) (who e))) = rw order_now at tells in
      noted_here (book_of t) r (order_id_at u (who e)) e x y
      ∙ ap (λ (o : Order). account_in o) (sym (after_here (book_of t) e low (omega arith)) ∙ ap (λ (b : Book). at b (who e)) (sym same))

  pub account_there : (n : ℕ) → n ≢ order_id_at u (who e) → (a : Account) → noted n a r ≡ a
  account_there n d a = noted_there (book_of t) r (order_id_at u (who e)) e (order_at u (who e)) tells n d a

  -- the other orders are as they were
  pub order_there : (k : ℕ) → k ≢ who e → at (book_of u) k ≡ at (book_of t) k
  order_there k d = ap (λ (b : Book). at b k) same ∙ after_there (book_of t) e low (omega arith) k d

  -- an event of an order that was there: ids gives the OrderIDs
  module _ (ids : ℕ → ℕ) (named : order_id_at u (who e) ≡ ids (who e)) (old : account_before (book_of t) e ≡ account_in (at (book_of t) (who e))) where
    pub account_then : (k : ℕ) → (ids k ≡ ids (who e) → k ≡ who e) → noted (ids k) (account_in (at (book_of t) k)) r ≡ account_in (at (book_of u) k)
    account_then k one =
        split (eqb k (who e))
        (λ z. rw (eqb-true k (who e) z) here)
        (λ z.
        let d = eqb-false k (who e) z in
        account_there (ids k) (λ h. d (one (h ∙ named))) _ ∙ ap (λ (o : Order). account_in o) (sym (order_there k d)))
      where
        here : noted (ids (who e)) (account_in (at (book_of t) (who e))) r ≡ account_in (at (book_of u) (who e))
        here =
            ap (λ (n : ℕ). noted n (account_in (at (book_of t) (who e))) r) (sym named)
            ∙ ap (λ (a : Account). noted (order_id_at u (who e)) a r) (sym old)
            ∙ account_here

-- ---- what a report trades
nought : (c : Bool) → ◌≡◌ {A = ℕ} (cond c 0 0) 0
nought true = refl
nought false = refl

traded_one : (takes : ℕ → Bool) (r : Reading) (i : ℕ) (e : Event) (o : Order) → Tells r i e o → traded_for takes r ≡ cond (takes o.side) (trades e) 0
unfolding traded_for
traded_one takes r i (Accepted n x) o t = rw t.kind (sym (nought (takes o.side)))
traded_one takes r i (Replaced n l q p) o t = rw t.kind (sym (nought (takes o.side)))
traded_one takes r i (Withdrawn n q) o t = rw t.kind (sym (nought (takes o.side)))
traded_one takes r i (Canceled n q) o t = rw t.kind (sym (nought (takes o.side)))
traded_one takes r i (Decremented n q) o t = rw t.kind (sym (nought (takes o.side)))
traded_one takes r i (Traded n k q l) o t = rw (t.side, t.executed, t.kind)
traded_one takes r i (Killed n q) o t = rw t.kind (sym (nought (takes o.side)))
traded_one takes r i (Expired n q) o t = rw t.kind (sym (nought (takes o.side)))

-- who does not buy sells
sells_else : (buy : Bool) (q : ℕ) → cond (not buy) q 0 ≡ cond buy 0 q
sells_else true q = refl
sells_else false q = refl

-- ---- one event that changes amounts
module _ (t : List ℕ) (e : Event) (long : length t ≡ table_bytes) (m : moves e ≡ true) (r : Ready (book_of t) e) where
  frame : Framed t (applied t e)
  frame = framed_applied t e long m r

  pub size : length (book_of (applied t e)) ≡ length (book_of t)
  size = length_book (applied t e) ∙ framed_filled t (applied t e) long frame ∙ sym (length_book t)

  book : book_of (applied t e) ≡ after (book_of t) e
  book = book_applied t e long m r

  terms_then : (k : ℕ) → terms_of (at (book_of (applied t e)) k) ≡ terms_of (at (book_of t) k)
  terms_then k =
      split (eqb k (who e))
      (λ z.
      rw (eqb-true k (who e) z, book, after_here (book_of t) e r.inside.low (omega (arith, r.inside.high))) (change_terms e (at (book_of t) (who e)) m))
      (λ z. rw (book, after_there (book_of t) e r.inside.low (omega (arith, r.inside.high)) k (eqb-false k (who e) z)))

  here : (k : ℕ) → In (book_of t) k → order_at (applied t e) k ≡ at (book_of (applied t e)) k
  here k i = sym (at_book (applied t e) k i.low (omega (arith, i.high, size, length_book (applied t e))))

  pub owner_then : (k : ℕ) → In (book_of t) k → (order_at (applied t e) k).mpid ≡ (at (book_of t) k).mpid
  owner_then k i = ap (λ (o : Order). o.mpid) (here k i) ∙ ap (λ (q : Terms). q.mpid) (terms_then k)

  pub owner_still : (k : ℕ) → (at (book_of (applied t e)) k).mpid ≡ (at (book_of t) k).mpid
  owner_still k = ap (λ (q : Terms). q.mpid) (terms_then k)

  pub in_then : (k : ℕ) → In (book_of t) k → In (book_of (applied t e)) k
  in_then k i = record { low = i.low; high = omega (arith, i.high, size) }

  -- its report, by the sides of a book whose orders they are
  module _ (c : Book) (x : Exact (book_of t) e) (rep : Reading) (tells : TellsOn (applied t e) e rep) (s : (k : ℕ) → (at (book_of t) k).side ≡ (at c k).side) where
    pub sides_then : (k : ℕ) → (at (book_of (applied t e)) k).side ≡ (at c k).side
    sides_then k = ap (λ (q : Terms). q.side) (terms_then k) ∙ s k

    side_then : (order_at (applied t e) (who e)).side ≡ (at c (who e)).side
    side_then = ap (λ (o : Order). o.side) (here (who e) r.inside) ∙ sides_then (who e)

    high : who e ≤ length (book_of (applied t e))
    high = omega (arith, r.inside.high, size)

    short : who e ≤ length (book_of t) + 1
    short = omega (arith, r.inside.high)

    -- where ids gives the OrderIDs
    module _ (ids : ℕ → ℕ) (named : (i : ℕ) → order_id_at t i ≡ ids i) where
      pub accounts_then : (k : ℕ) → (ids k ≡ ids (who e) → k ≡ who e)
          → noted (ids k) (account_in (at (book_of t) k)) rep ≡ account_in (at (book_of (applied t e)) k)
      accounts_then =
          account_then t (applied t e) e r.inside.low high short x book rep tells ids (applied_order_id t e (who e) ∙ named (who e))
          (before_moves (book_of t) e m)

      pub others_then : (n : ℕ) → ids (who e) ≢ n → (a : Account) → noted n a rep ≡ a
      others_then n d a =
          account_there t (applied t e) e r.inside.low high short x book rep tells n (λ h. d (sym (applied_order_id t e (who e) ∙ named (who e)) ∙ sym h)) a

    pub bought_then : traded_for buys rep ≡ cond (is_buy (at c (who e))) (trades e) 0
    bought_then = traded_one buys rep _ e _ tells ∙ ap (λ (y : ℕ). cond (buys y) (trades e) 0) side_then

    pub sold_then : traded_for sells rep ≡ cond (is_buy (at c (who e))) 0 (trades e)
    sold_then =
        traded_one sells rep _ e _ tells
        ∙ ap (λ (y : ℕ). cond (sells y) (trades e) 0) side_then
        ∙ sells_else (is_buy (at c (who e))) (trades e)

-- ---- all events in turn, by the sides and OrderIDs of a book whose orders they are
module _ (read : List ℕ → Reading) (c : Book) (ids : ℕ → ℕ) (apart : (i j : ℕ) → In c i → In c j → ids i ≡ ids j → i ≡ j) where
  pub record Follows (t : List ℕ) (n : ℕ) (es : List Event) : Type 0 where
    pub accounts : (k : ℕ) → In c k
        → account_from (ids k) (account_in (at (book_of t) k)) (map read (event_reports t n es)) ≡ account_in (at (play (book_of t) es) k)
    pub others : (k : ℕ) → ((i : ℕ) → In c i → ids i ≢ k) → (a : Account) → account_from k a (map read (event_reports t n es)) ≡ a
    pub bought : traded buys (map read (event_reports t n es)) ≡ bought_by c es
    pub sold : traded sells (map read (event_reports t n es)) ≡ sold_by c es
    pub taken : unread (map read (event_reports t n es)) ≡ 0

  -- one report before others
  pub all_follow : (es : List Event) (t : List ℕ) (n : ℕ) → length t ≡ table_bytes → AllMove es → Readies (book_of t) es → Exacts (book_of t) es → TellsAll read t n es
      → ((k : ℕ) → (at (book_of t) k).side ≡ (at c k).side) → length (book_of t) ≡ length c → ((i : ℕ) → order_id_at t i ≡ ids i) → Follows t n es
  unfolding event_reports account_from traded unread bought_by sold_by play
  all_follow [] t n long m r x tells s z w =
      record { accounts = λ k h. refl; others = λ k g a. refl; bought = refl; sold = refl; taken = refl }
  all_follow (e ∷ es) t n long m r x tells s z w =
      let u : List ℕ = applied t e in
      let rep : Reading = read (event_report u n e) in
      let book : book_of u ≡ after (book_of t) e = book_applied t e long m.0 r.0 in
      let inside : In c (who e) = record { low = r.0.inside.low; high = omega (arith, r.0.inside.high) } in
      let g : Follows u (n + 1) es =
      all_follow es u (n + 1) (framed_long t u long (framed_applied t e long m.0 r.0)) m.1 (rw book r.1) (rw book x.1) tells.1
      (sides_then t e long m.0 r.0 c x.0 rep tells.0.event s) (size t e long m.0 r.0 ∙ z)
      (λ i. applied_order_id t e i ∙ w i) in
      record {
        accounts = λ k h.
            ap (λ (a : Account). account_from (ids k) a (map read (event_reports u (n + 1) es)))
            (accounts_then t e long m.0 r.0 c x.0 rep tells.0.event s ids w k (apart k (who e) h inside))
            ∙ g.accounts k h
            ∙ ap (λ (b : Book). account_in (at (play b es) k)) book;
        others = λ k h a.
            ap (λ (y : Account). account_from k y (map read (event_reports u (n + 1) es)))
            (others_then t e long m.0 r.0 c x.0 rep tells.0.event s ids w k (h (who e) inside) a)
            ∙ g.others k h a;
        bought = omega (arith, bought_then t e long m.0 r.0 c x.0 rep tells.0.event s, g.bought);
        sold = omega (arith, sold_then t e long m.0 r.0 c x.0 rep tells.0.event s, g.sold);
        taken = rw (tells_read rep _ e _ tells.0.event) (omega (arith, g.taken));
      }
