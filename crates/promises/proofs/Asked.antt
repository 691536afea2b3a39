-- One report of an event that a message asks for: a change of an order that is there, or a new order, which may take the record of one
-- with nothing open. It leads from the table before it to the table that is left.
use mathlib.Core.Path.{◌≡◌, refl, sym, ap, subst, ◌∙◌}
use mathlib.Core.Bool.{Bool, true, false}
use mathlib.Core.List.{List, [], ◌∷◌}
use mathlib.Core.Logic.{◌≢◌}
use Prim.Native.Nat.{ℕ, ◌+◌, ◌≤◌}
use native.Mathlib.Omega.{arith}
use lib.Dec.{eqb, ltb}
use lib.ListN.{length}
use borrow.Author.Tests.{eqb-true, eqb-false, ltb-true, ltb-false}
use Rattle.octets.proofs.Bools.{split, not_both}
use Rattle.matching.specs.declared.Order.{Order}
use Rattle.matching.specs.declared.Event.{Event}
use Rattle.matching.specs.declared.Event.TheVariants.{Accepted, Replaced, Withdrawn, Canceled, Decremented, Traded, Killed, Expired}
use Rattle.matching.specs.Matching.{Book, at, put as put_order, open_of, buys, who, change, after}
use Rattle.matching.specs.Held.{In, Takes, anew, over}
use Rattle.matching.specs.Happens.{Fresh}
use Rattle.matching.proofs.Books.{length_put}
use Rattle.matching.proofs.Conserved.{takes_high}
use Rattle.matching.proofs.Requests.{takes_more, takes_in, takes_back}
use Rattle.table.specs.Heading.{next_of}
use Rattle.table.specs.Orders.{order_id_at, book_of}
use Rattle.table.specs.Facts.{Market}
use Rattle.report.specs.declared.Reading.{Reading}
use Rattle.readback.specs.Told.{kind_told}
use Rattle.promises.specs.Tallies.{Account, blank, noted, account_from, is_trade, sells, traded_for, traded, trades_of, unread}
use Rattle.promises.proofs.Tells.{Exact, tells_read, account_in, account_before}
use Rattle.promises.proofs.OrderIds.{Nobody, ids_apart, nobody_yet}
use Rattle.promises.proofs.Pairs.{no_trade_of, paired_none}
use Rattle.promises.proofs.Leads.{Settled, shut_settled, Accounts, accounts_after, Leads, kept_accounts}
use Rattle.promises.proofs.Playing.{TellsOn, account_here, account_there, account_then, order_there}

abbrev pub is_asked : Event → Bool
is_asked (Accepted n o) = true
is_asked (Replaced n l q p) = true
is_asked (Withdrawn n q) = true
is_asked (Canceled n q) = false
is_asked (Decremented n q) = false
is_asked (Traded n m q l) = false
is_asked (Killed n q) = false
is_asked (Expired n q) = false

-- it is told by no Trade
asked_told : (e : Event) → is_asked e ≡ true → is_trade (kind_told e) ≡ false
asked_told (Accepted n x) a = refl
asked_told (Replaced n l q p) a = refl
asked_told (Withdrawn n q) a = refl
asked_told (Canceled n q) a = refl
asked_told (Decremented n q) a = refl
asked_told (Traded n k q l) a = absurd (not_both a refl)
asked_told (Killed n q) a = refl
asked_told (Expired n q) a = refl

untraded : (takes : ℕ → Bool) (r : Reading) → is_trade r.kind ≡ false → traded_for takes r ≡ 0
unfolding traded_for
untraded takes r e = rw e

-- the accounts aside
asked_leads : (t u v : List ℕ) (e : Event) (r : Reading) → is_asked e ≡ true → next_of t ≤ next_of v → TellsOn u e r
    → ((acc : ℕ → Account) → Accounts t acc → Accounts v (accounts_after acc (r ∷ []))) → Leads t v (r ∷ [])
unfolding traded trades_of unread
asked_leads t u v e r a l tells accounts =
    let z : is_trade r.kind ≡ false = ap is_trade tells.kind ∙ asked_told e a in
    record {
      accounts = accounts;
      balanced = ap (λ (n : ℕ). n + 0) (untraded buys r z ∙ sym (untraded sells r z));
      pairs = paired_none (next_of t) (next_of v) (r ∷ []) l (λ n. rw (no_trade_of n r z));
      read = rw (tells_read r _ e _ tells);
    }

-- a change of an order: u is the table after the event, v the one that is left
module _ (t u v : List ℕ) (e : Event) (r : Reading) (m : Market t) (i : In (book_of t) (who e)) (x : Exact (book_of t) e)
    (old : account_before (book_of t) e ≡ account_in (at (book_of t) (who e))) (same : book_of u ≡ after (book_of t) e) (left : book_of v ≡ book_of u)
    (ids : (i : ℕ) → order_id_at u i ≡ order_id_at t i) (kept : (i : ℕ) → order_id_at v i ≡ order_id_at u i) (next : next_of t ≤ next_of v) (tells : TellsOn u e r) where
  size : length (book_of u) ≡ length (book_of t)
  unfolding after
  size = ap length same ∙ length_put (book_of t) (who e) (change e (at (book_of t) (who e))) i.high

  high : who e ≤ length (book_of u)
  high = omega (arith, size, i.high)

  short : who e ≤ length (book_of t) + 1
  short = omega (arith, i.high)

  pub changed_leads : is_asked e ≡ true → Leads t v (r ∷ [])
  unfolding account_from
  changed_leads a =
      asked_leads t u v e r a next tells
      (kept_accounts t v (r ∷ []) m
      (record {
        size = ap length left ∙ size;
        ids = λ k. kept k ∙ ids k;
        next = next;
        follows = λ k h.
            account_then t u e i.low high short x same r tells (order_id_at t) (ids (who e)) old k (λ q. ids_apart t m k (who e) h i q)
            ∙ ap (λ (b : Book). account_in (at b k)) (sym left);
        others = λ n g y. account_there t u e i.low high short x same r tells n (λ q. g (who e) i (sym (ids (who e)) ∙ sym q)) y;
      }))

-- a new order o, as record k: its OrderID is the next number, and an order that had the record is gone with nothing open
module _ (t u v : List ℕ) (k : ℕ) (o : Order) (r : Reading) (m : Market t) (x : Fresh (book_of t) k o) (same : book_of u ≡ after (book_of t) (Accepted k o))
    (left : book_of v ≡ book_of u) (id : order_id_at u k ≡ next_of t) (ids : (i : ℕ) → i ≢ k → order_id_at u i ≡ order_id_at t i)
    (kept : (i : ℕ) → order_id_at v i ≡ order_id_at u i) (next : next_of v ≡ next_of t + 1) (tells : TellsOn u (Accepted k o) r) where
  after_put : book_of u ≡ put_order (book_of t) k o
  unfolding after change
  after_put = same

  in_new : In (book_of u) k
  in_new = rw after_put (takes_in (book_of t) k o x.number)

  in_old : (i : ℕ) → i ≢ k → In (book_of v) i → In (book_of t) i
  in_old i d h = takes_back (book_of t) k o x.number i d (rw (left, after_put) at h)

  in_still : (i : ℕ) → In (book_of t) i → In (book_of v) i
  in_still i h = record { low = h.low; high = rw (left, after_put) (omega (arith, h.high, takes_more (book_of t) k o x.number)) }

  short_new : k ≤ length (book_of t) + 1
  short_new = omega (arith, takes_high (book_of t) k x.number)

  -- the account of its OrderID, and of any other number
  begun : noted (next_of t) blank r ≡ account_in (at (book_of v) k)
  begun =
      ap (λ (n : ℕ). noted n blank r) (sym id)
      ∙ account_here t u (Accepted k o) in_new.low in_new.high short_new x same r tells
      ∙ ap (λ (b : Book). account_in (at b k)) (sym left)

  passed : (n : ℕ) → n ≢ next_of t → (a : Account) → noted n a r ≡ a
  passed n d a = account_there t u (Accepted k o) in_new.low in_new.high short_new x same r tells n (λ q. d (q ∙ id)) a

  -- another order is as it was
  other : (i : ℕ) → i ≢ k → at (book_of v) i ≡ at (book_of t) i
  other i d = ap (λ (b : Book). at b i) left ∙ order_there t u (Accepted k o) in_new.low in_new.high short_new x same r tells i d

  -- one that had the record has nothing open
  shut : Takes (book_of t) k → In (book_of t) k → open_of (at (book_of t) k) ≡ 0
  shut (anew e) h = absurd (omega (arith, h.high))
  shut (over i z) h = z

  settled : In (book_of t) k → (a : Account) → a ≡ account_in (at (book_of t) k) → Settled a
  settled h a e = subst (λ (y : Account). Settled y) (sym e) (shut_settled (at (book_of t) k) (m.held.sound k h).covered (shut x.number h))

  module _ (acc : ℕ → Account) (a : Accounts t acc) where
    there : (i : ℕ) → In (book_of v) i → noted (order_id_at v i) (acc (order_id_at v i)) r ≡ account_in (at (book_of v) i)
    there i h =
        split (eqb i k)
        (λ z.
        let q = eqb-true i k z in
        let e : order_id_at v i ≡ next_of t = ap (λ (j : ℕ). order_id_at v j) q ∙ kept k ∙ id in
        ap (λ (n : ℕ). noted n (acc n) r) e
        ∙ ap (λ (y : Account). noted (next_of t) y r) (a.unnamed (next_of t) (omega arith))
        ∙ begun
        ∙ ap (λ (j : ℕ). account_in (at (book_of v) j)) (sym q))
        (λ z.
        let d = eqb-false i k z in
        let l = in_old i d h in
        let e : order_id_at v i ≡ order_id_at t i = kept i ∙ ids i d in
        ap (λ (n : ℕ). noted n (acc n) r) e
        ∙ passed (order_id_at t i) (nobody_yet t m (next_of t) (omega arith) i l) (acc (order_id_at t i))
        ∙ a.there i l
        ∙ ap (λ (y : Order). account_in y) (sym (other i d)))

    -- a number that no order has then: that of the order that is gone, or one that no order had before
    gone : (n : ℕ) → Nobody v n → Settled (acc n)
    gone n g =
        split (ltb (length (book_of t)) k)
        (λ z. a.gone n (λ i h e. old i h (λ q. omega (arith, ltb-true (length (book_of t)) k z, h.high)) e))
        (λ z.
        let h : In (book_of t) k = record { low = in_new.low; high = ltb-false (length (book_of t)) k z } in
        split (eqb (order_id_at t k) n)
        (λ y. settled h (acc n) (ap acc (sym (eqb-true (order_id_at t k) n y)) ∙ a.there k h))
        (λ y.
        a.gone n
        (λ i l e.
        split (eqb i k)
        (λ w. eqb-false (order_id_at t k) n y (ap (λ (j : ℕ). order_id_at t j) (sym (eqb-true i k w)) ∙ e))
        (λ w. old i l (eqb-false i k w) e))))
      where
        old : (i : ℕ) → In (book_of t) i → i ≢ k → order_id_at t i ≡ n → ⊥
        old i h d e = g i (in_still i h) (kept i ∙ ids i d ∙ e)

    taken : Accounts v (accounts_after acc (r ∷ []))
    unfolding account_from
    taken =
        record {
          there = there;
          gone = λ n g.
              subst (λ (y : Account). Settled y)
              (sym (passed n (λ q. g k (rw left in_new) (kept k ∙ id ∙ sym q)) (acc n))) (gone n g);
          unnamed = λ n h. passed n (λ q. omega arith) (acc n) ∙ a.unnamed n (omega arith);
        }

  pub new_order_leads : Leads t v (r ∷ [])
  new_order_leads = asked_leads t u v (Accepted k o) r refl (omega arith) tells taken
