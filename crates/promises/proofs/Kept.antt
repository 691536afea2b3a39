-- From the first table on: what the reports of a history tell of its last table.
use mathlib.Core.Path.{◌≡◌, refl, sym, ap, ◌∙◌}
use mathlib.Core.Bool.{Bool, true, false}
use mathlib.Core.List.{List, [], map}
use mathlib.Core.Logic.{◌≢◌}
use Prim.Native.Nat.{ℕ, ◌+◌, ◌≤◌, ◌<◌}
use native.Mathlib.Omega.{arith}
use lib.Dec.{eqb, ltb}
use lib.ListN.{length}
use borrow.Author.Tests.{eqb-true, eqb-false}
use Rattle.octets.proofs.Bools.{split, not_both}
use Rattle.decimal.specs.declared.Instrument.{Instrument}
use Rattle.request.specs.declared.NewOrder.{NewOrder}
use Rattle.request.specs.declared.Replacement.{Replacement}
use Rattle.request.specs.declared.Cancellation.{Cancellation}
use Rattle.request.specs.declared.Asked.{Asked}
use Rattle.request.specs.declared.Asked.TheVariants.{Garbled, Refused, Enters, Replaces, Cancels}
use Rattle.request.specs.Asks.{asked_of}
use Rattle.matching.specs.declared.Order.{Order}
use Rattle.matching.specs.Depth.{depth}
use Rattle.matching.specs.Matching.{at, open_of, is_buy}
use Rattle.matching.specs.Held.{Covered, In}
use Rattle.table.specs.Heading.{venue_of, port_of, next_of, work_of, instrument_of}
use Rattle.table.specs.Orders.{order_id_at, order_at, filled, book_of}
use Rattle.table.specs.Market.{is_market, is_market_of}
use Rattle.table.specs.Opened.{is_opening, opened}
use Rattle.table.proofs.Instruments.{of_market}
use Rattle.table.proofs.Facts.{market_facts}
use Rattle.table.proofs.Books.{at_book}
use Rattle.table.proofs.Theorems.{opening_makes_a_market}
use Rattle.report.specs.declared.Reading.{Reading}
use Rattle.report.specs.Reports.{read_of}
use Rattle.std.specs.Prelude.{Result, Ok, Err}
use Rattle.refusals.specs.declared.Refusal.{Refusal}
use Rattle.refusals.specs.declared.Refusal.TheVariants.{NoMarket}
use Rattle.refusals.specs.Refusals.{number_of}
use Rattle.calls.specs.declared.OrderReason.{OrderReason}
use Rattle.calls.specs.declared.ChangeReason.{ChangeReason}
use Rattle.calls.specs.Told.{joined, room_asked}
use Rattle.calls.specs.Checks.{new_stands, cancel_stands, replace_stands}
use Rattle.calls.specs.Submit.{rejecting, faulted, new_rejected, change_rejected, new_taken, replacement_taken, cancel_taken, entering, replacing, canceling, handled, submitted}
use Rattle.calls.specs.Run.{worked, ran}
use Rattle.load.specs.Load.{loaded, load_number, refuses}
use Rattle.load.proofs.Answers.{Opens, narrow, strange, busy, went, opens}
use Rattle.intake.proofs.Keeping.{Comes, no_room, no_market, in_work, spent, heard, comes}
use Rattle.std.specs.Prelude.{Ok, Err}
use Rattle.refusals.specs.declared.Refusal.TheVariants as refusal_variants
use Rattle.market.specs.Depth.{is_side, depth_answer}
use Rattle.promises.specs.History.{Call, table_after, reports_after}
use Rattle.promises.specs.Tallies.{Account, blank, account_of, bought, sold, trades_of, self_trades, unread}
use Rattle.promises.specs.Whole.{record_by, open_by}
use Rattle.promises.proofs.Tells.{account_in}
use Rattle.promises.proofs.OrderIds.{in_filled, filled_in, by_none, by_some, by_in, open_is, open_none, open_there}
use Rattle.promises.proofs.Leads.{Settled, Accounts}
use Rattle.promises.proofs.Opening.{opened_book}
use Rattle.promises.proofs.Histories.{history_keeps, history_leads}
use Rattle.promises.proofs.Telling.{step_tells, all_told}

-- what reports tell of a table
pub record Told (t : List ℕ) (rs : List Reading) : Type 0 where
  pub accounts : Accounts t (λ n. account_of n rs)
  pub balanced : bought rs ≡ sold rs
  pub twos : (n : ℕ) → 0 < trades_of n rs → trades_of n rs ≡ 2
  pub fair : self_trades rs ≡ 0
  pub read : unread rs ≡ 0

-- ---- every history

-- a table with no order, and no report yet
no_accounts : (t : List ℕ) → book_of t ≡ [] → Accounts t (λ n. blank)
no_accounts t e =
    record {
      there = λ i h. absurd (omega (arith, h.low, none i h));
      gone = λ n g. record { sum = refl; left = refl };
      unnamed = λ n h. refl;
    }
  where
    none : (i : ℕ) → In (book_of t) i → i ≤ 0
    none i h = rw e at h.high

module _ (q : Instrument) (before venue port code : List ℕ) (first : ℕ) (mpids modes : List ℕ) (taken : is_opening q before venue port code first mpids modes ≡ true)
    (calls : List Call) where
  abbrev start : List ℕ
  start = opened q before venue port code first mpids modes

  pub after_market : is_market_of q (table_after q start calls) ≡ true
  after_market = history_keeps q calls start (opening_makes_a_market q before venue port code first mpids modes taken)

  pub after_told : Told (table_after q start calls) (map (read_of q) (reports_after q start calls))
  after_told =
      let g = history_leads q (all_told q) (step_tells q) calls start (opening_makes_a_market q before venue port code first mpids modes taken) in
      record {
        accounts = g.accounts (λ n. blank) (no_accounts start (opened_book q before venue port code first mpids modes taken));
        balanced = g.balanced;
        twos = g.pairs.twos;
        fair = g.pairs.fair;
        read = g.read;
      }

-- ---- what that comes to, for every number
module _ (t : List ℕ) (rs : List Reading) (m : is_market t ≡ true) (g : Told t rs) where
  -- of an order in the table
  adds : (o : Order) → Covered o → (account_in o).accepted ≡ (account_in o).executions + (account_in o).decrements + (account_in o).cancels + open_of o
  unfolding open_of
  adds o c = omega arith

  covered : (i : ℕ) → In (book_of t) i → Covered (at (book_of t) i)
  covered i h = ((market_facts t m).held.sound i h).covered

  account_is : (n i : ℕ) → order_id_at t i ≡ n → In (book_of t) i → account_of n rs ≡ account_in (at (book_of t) i)
  account_is n i e h = ap (λ (k : ℕ). account_of k rs) (sym e) ∙ g.accounts.there i h

  -- by the record that has the OrderID, or where none has
  by_record : (P : Account → ℕ → Type 0) (n : ℕ) → ((a : Account) → Settled a → P a 0)
      → ((i : ℕ) → In (book_of t) i → P (account_in (at (book_of t) i)) (open_of (at (book_of t) i))) → P (account_of n rs) (open_by t n)
  by_record P n out here =
      split (eqb (record_by t n) 0)
      (λ z.
      let h = by_none t n (eqb-true (record_by t n) 0 z) in
      rw (open_none t n h) (out (account_of n rs) (g.accounts.gone n h)))
      (λ z.
      let i : ℕ = record_by t n in
      let l : 1 ≤ i = omega (arith, eqb-false (record_by t n) 0 z) in
      let h = by_in t n i refl l in
      rw (open_is t n i refl, account_is n i (by_some t n i refl l) h) (here i h))

  pub account_adds : (n : ℕ) → let a = account_of n rs in a.accepted ≡ a.executions + a.decrements + a.cancels + open_by t n
  account_adds n =
      by_record (λ (a : Account) (q : ℕ). a.accepted ≡ a.executions + a.decrements + a.cancels + q) n
      (λ a s. omega (arith, s.sum)) (λ i h. adds (at (book_of t) i) (covered i h))

  pub account_left : (n : ℕ) → (account_of n rs).left ≡ open_by t n
  account_left n = by_record (λ (a : Account) (q : ℕ). a.left ≡ q) n (λ a s. s.left) (λ i h. refl)

  pub account_none : (n : ℕ) → next_of t ≤ n → account_of n rs ≡ blank
  account_none n h = g.accounts.unnamed n h

-- ---- what is open, by OrderID
module _ (t : List ℕ) where
  pub open_record : is_market t ≡ true → (i : ℕ) → 1 ≤ i → i ≤ filled t → open_by t (order_id_at t i) ≡ open_of (order_at t i)
  open_record m i l h = open_there t (market_facts t m) i (filled_in t i l h) ∙ ap open_of (at_book t i l h)

  pub open_gone : (n : ℕ) → ((i : ℕ) → 1 ≤ i → i ≤ filled t → order_id_at t i ≢ n) → open_by t n ≡ 0
  open_gone n g = open_none t n (λ i h. g i h.low (in_filled t i h))

-- ---- no call finds no market
abbrev is_no_market : {T : Type 0} → Result T Refusal → Bool
is_no_market (Ok x) = false
is_no_market (Err r) = eqb (number_of r) 2

module _ (t message : List ℕ) where
  entering_found : (o : NewOrder) (s : Result (Unit {0}) OrderReason) → is_no_market (entering t message o s).answer ≡ false
  unfolding new_taken new_rejected rejecting
  entering_found o (Ok stands) = refl
  entering_found o (Err n) = refl

  replacing_found : (o : Replacement) (s : Result (Unit {0}) ChangeReason) → is_no_market (replacing t message o s).answer ≡ false
  unfolding replacement_taken change_rejected rejecting
  replacing_found o (Ok stands) = refl
  replacing_found o (Err n) = refl

  canceling_found : (o : Cancellation) (s : Result (Unit {0}) ChangeReason) → is_no_market (canceling t message o s).answer ≡ false
  unfolding cancel_taken change_rejected rejecting
  canceling_found o (Ok stands) = refl
  canceling_found o (Err n) = refl

  handled_found : (x : Asked) → is_no_market (handled t message x).answer ≡ false
  unfolding faulted rejecting
  handled_found Garbled = refl
  handled_found (Refused r) = refl
  handled_found (Enters o) = entering_found o (new_stands t message o)
  handled_found (Replaces o) = replacing_found o (replace_stands t message o)
  handled_found (Cancels o) = canceling_found o (cancel_stands t message o)

  submitted_found : (q : Instrument) (room : ℕ) → is_market_of q t ≡ true → is_no_market (submitted q t message room).answer ≡ false
  submitted_found q room m = by (comes q t message room)
    where
      by : Comes q t message room → is_no_market (submitted q t message room).answer ≡ false
      by (no_room a e) = rw e
      by (no_market a n e) = absurd (not_both m n)
      by (in_work a n w e) = rw e
      by (spent a n w h e) = rw e
      by (heard a n x e) = rw e (handled_found (asked_of (instrument_of t) (venue_of t) (port_of t) message))

module _ (q : Instrument) (t : List ℕ) (m : is_market_of q t ≡ true) where
  pub submit_found : (message : List ℕ) (room : ℕ) → (submitted q t message room).answer ≢ Err NoMarket
  submit_found message room e = not_both (ap is_no_market e) (submitted_found t message q room m)

  pub run_found : (room budget : ℕ) → (ran q t room budget).answer ≢ Err NoMarket
  unfolding ran
  run_found room budget e =
      split (ltb room room_asked)
      (λ z. not_both (ap is_no_market e) (rw z))
      (λ z. not_both (ap is_no_market e) (rw (z, m)))

  pub load_found : (buffer : List ℕ) (room : ℕ) → (loaded q t buffer room).answer ≢ Err NoMarket
  load_found buffer room e = by (opens q t buffer room)
    where
      by : Opens q t buffer room → ⊥
      by (narrow a x) = let n : ◌≡◌ {A = ℕ} 1 2 = rw x at (ap load_number e) in omega arith
      by (strange a n x) = not_both m n
      by (busy a n w x) = let n : ◌≡◌ {A = ℕ} 3 2 = rw x at (ap load_number e) in omega arith
      by (went a n w x) = not_both (ap refuses e) (rw x)

  pub depth_found : (side k : ℕ) → depth_answer q t side k ≢ Err refusal_variants.NoMarket
  unfolding depth_answer
  depth_found side k e =
      split (eqb (work_of t) 0)
      (λ z.
      split (is_side side)
      (λ w. let x : Ok (depth (book_of t) side k) ≡ Err refusal_variants.NoMarket = rw (m, z, w) at e in cc)
      (λ w. let x : Err refusal_variants.BadSide ≡ Err refusal_variants.NoMarket = rw (m, z, w) at e in cc))
      (λ z. let x : Err refusal_variants.InWork ≡ Err refusal_variants.NoMarket = rw (m, z) at e in cc)

  -- ---- an open buy is above an open sell
  pub buys_above : work_of t ≡ 0 → (i j : ℕ) → 1 ≤ i → i ≤ filled t → 1 ≤ j → j ≤ filled t → is_buy (order_at t i) ≡ true → is_buy (order_at t j) ≡ false
      → 0 < open_of (order_at t i) → 0 < open_of (order_at t j) → (order_at t j).level < (order_at t i).level
  buys_above idle i j li hi lj hj si sj oi oj =
      let p = at_book t i li hi in
      let r = at_book t j lj hj in
      let u = (market_facts t (of_market q t m)).held.uncrossed i j (λ e. omega arith) (λ e. omega arith) in
      let v = rw (p, r) at u in
      v si sj oi oj
