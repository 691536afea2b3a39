-- Submit leaves a market where it found one, which trades the same, whatever the message and the room.
use mathlib.Core.Path.{◌≡◌, refl, sym, ap}
use mathlib.Core.Bool.{true, false, not}
use mathlib.Core.List.{List}
use Prim.Native.Nat.{ℕ, ◌≤◌, ◌<◌}
use native.Mathlib.Omega.{arith}
use lib.Dec.{eqb, ltb}
use borrow.Author.Tests.{eqb-true, eqb-false, ltb-true, ltb-false, not-true, not-false}
use Rattle.octets.proofs.Bools.{split}
use Rattle.decimal.specs.declared.Instrument.{Instrument}
use Rattle.request.specs.declared.Refusal.{Refusal}
use Rattle.request.specs.declared.NewOrder.{NewOrder}
use Rattle.request.specs.declared.Replacement.{Replacement}
use Rattle.request.specs.declared.Cancellation.{Cancellation}
use Rattle.request.specs.declared.Asked.{Asked}
use Rattle.request.specs.declared.Asked.TheVariants.{Garbled, Refused, Enters, Replaces, Cancels}
use Rattle.request.specs.Asks.{asked_of}
use Rattle.matching.specs.declared.Order.{Order}
use Rattle.matching.specs.Matching.{open_of}
use Rattle.table.specs.Heading.{venue_of, port_of, next_of, work_of, instrument_of}
use Rattle.table.specs.Orders.{order_at, record_for}
use Rattle.table.specs.Market.{is_market_of}
use Rattle.table.specs.Changes.{numbered}
use Rattle.table.proofs.Instruments.{of_market, market_instrument}
use Rattle.table.proofs.Facts.{market_facts}
use Rattle.table.proofs.Theorems.{a_number_keeps, a_new_order_keeps, a_replacement_keeps, a_cancel_keeps}
use Rattle.std.specs.Prelude.{Result, Ok, Err}
use Rattle.refusals.specs.declared.Refusal.TheVariants.{NoRoom, NoMarket, InWork, NumbersSpent}
use Rattle.calls.specs.declared.OrderReason.{OrderReason}
use Rattle.calls.specs.declared.ChangeReason.{ChangeReason}
use Rattle.calls.specs.Checks.{text_of, holder, new_stands, cancel_stands, replace_stands}
use Rattle.calls.specs.Submit.{unchanged, rejecting, faulted, new_rejected, change_rejected, marks_of, new_order_of, new_taken, replacement_taken, cancel_taken, entering, replacing, canceling, handled, submitted}
use Rattle.intake.specs.Intake.{Asking}
use Rattle.intake.proofs.Standing.{new_named, new_account, new_account_short, new_quoted, new_marked, new_enters, new_time, cancel_in, cancel_at, cancel_named, replace_in, replace_named, replace_quoted, replace_renews, replace_time}

-- ---- each request

module _ (q : Instrument) (t message : List ℕ) (m : is_market_of q t ≡ true) where
  same : instrument_of t ≡ q
  same = market_instrument q t m

  rejected_kept : {x : Asked} → Asking t message x → is_market_of q (numbered t 1) ≡ true
  rejected_kept a = a_number_keeps q t m a.idle 1 (omega (arith, a.numbers))

  pub faulted_kept : (r : Refusal) → Asking t message (Refused r) → is_market_of q (faulted t message r).table ≡ true
  unfolding faulted rejecting
  faulted_kept r a = rejected_kept a

  pub new_kept : (o : NewOrder) (s : Result (Unit {0}) OrderReason) → new_stands t message o ≡ s → Asking t message (Enters o) → is_market_of q (entering t message o s).table ≡ true
  unfolding new_taken new_rejected rejecting
  new_kept o (Err reason) e a = rejected_kept a
  new_kept o (Ok stands) e a =
      a_new_order_keeps q t m a.idle (record_for t) (text_of message o.id) (text_of message o.account) (marks_of o)
      (new_order_of t message o) (text_of message o.time) (new_named t message o a e) (new_account_short t message o a) (new_account t message o a)
      (rw same at (new_marked t message o a)) (rw same at (new_quoted t message o a)) (new_enters t message o a e) (new_time t message o a)

  pub replace_kept : (o : Replacement) (s : Result (Unit {0}) ChangeReason) → replace_stands t message o ≡ s → Asking t message (Replaces o) → is_market_of q (replacing t message o s).table ≡ true
  unfolding replacement_taken change_rejected rejecting
  replace_kept o (Err reason) e a = rejected_kept a
  replace_kept o (Ok stands) e a =
      let k : ℕ = holder t (text_of message o.original) in
      a_replacement_keeps q t m a.idle k (text_of message o.id) (replace_in t message o a k refl e) (replace_named t message o a k refl e) o.level
      o.quantity (next_of t) (text_of message o.time) (replace_renews t message o a k refl e)
      (rw same at (replace_quoted t message o a)) (replace_time t message o a k refl e)

  pub cancel_kept : (o : Cancellation) (s : Result (Unit {0}) ChangeReason) → cancel_stands t message o ≡ s → Asking t message (Cancels o) → is_market_of q (canceling t message o s).table ≡ true
  unfolding cancel_taken change_rejected rejecting
  cancel_kept o (Err reason) e a = rejected_kept a
  cancel_kept o (Ok stands) e a =
      let k : ℕ = holder t (text_of message o.original) in
      let z : open_of (order_at t k) ≡ _ = ap (λ (x : Order). open_of x) (sym (cancel_at t message o a k refl e)) in
      rw z (a_cancel_keeps q t m a.idle k (text_of message o.id) (cancel_in t message o a k refl e) (cancel_named t message o a k refl e) a.numbers)

  pub handled_kept : (x : Asked) → Asking t message x → is_market_of q (handled t message x).table ≡ true
  handled_kept Garbled a = m
  handled_kept (Refused r) a = faulted_kept r a
  handled_kept (Enters o) a = new_kept o (new_stands t message o) refl a
  handled_kept (Replaces o) a = replace_kept o (replace_stands t message o) refl a
  handled_kept (Cancels o) a = cancel_kept o (cancel_stands t message o) refl a

-- ---- the call, by its first refusals

pub data Comes (q : Instrument) (t message : List ℕ) (room : ℕ) : Type 0 where
  no_room : room < 1024 → submitted q t message room ≡ unchanged t NoRoom → Comes q t message room
  no_market : 1024 ≤ room → is_market_of q t ≡ false → submitted q t message room ≡ unchanged t NoMarket → Comes q t message room
  in_work : 1024 ≤ room → is_market_of q t ≡ true → 0 < work_of t → submitted q t message room ≡ unchanged t InWork → Comes q t message room
  spent : 1024 ≤ room → is_market_of q t ≡ true → work_of t ≡ 0 → 999998976 < next_of t → submitted q t message room ≡ unchanged t NumbersSpent
      → Comes q t message room
  heard : 1024 ≤ room → is_market_of q t ≡ true → Asking t message (asked_of (instrument_of t) (venue_of t) (port_of t) message)
      → submitted q t message room ≡ handled t message (asked_of (instrument_of t) (venue_of t) (port_of t) message) → Comes q t message room

pub comes : (q : Instrument) (t message : List ℕ) (room : ℕ) → Comes q t message room
unfolding submitted
comes q t message room =
    split (ltb room 1024) (λ x. no_room (ltb-true room 1024 x) (rw x)) (λ x.
    let a = ltb-false room 1024 x in
    split (not (is_market_of q t)) (λ y. no_market a (not-true _ y) (rw (x, y))) (λ y.
    let m = not-false _ y in
    split (not (eqb (work_of t) 0)) (λ z. in_work a m (omega (arith, eqb-false (work_of t) 0 (not-true _ z))) (rw (x, y, z))) (λ z.
    let w = eqb-true (work_of t) 0 (not-false _ z) in
    split (ltb 999998976 (next_of t)) (λ u. spent a m w (ltb-true 999998976 (next_of t) u) (rw (x, y, z, u))) (λ u.
    heard a m (record { market = market_facts t (of_market q t m); idle = w; numbers = ltb-false 999998976 (next_of t) u; asks = refl }) (rw (x, y, z, u))))))

pub submitted_kept : (q : Instrument) (t message : List ℕ) (room : ℕ) → is_market_of q t ≡ true → is_market_of q (submitted q t message room).table ≡ true
submitted_kept q t message room m = by (comes q t message room)
  where
    by : Comes q t message room → is_market_of q (submitted q t message room).table ≡ true
    by (no_room a e) = rw e m
    by (no_market a n e) = rw e m
    by (in_work a n w e) = rw e m
    by (spent a n w h e) = rw e m
    by (heard a n x e) = rw e (handled_kept q t message m _ x)
