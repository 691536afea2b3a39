-- How many reports Submit writes, how long they are, and what becomes of the next number.
use mathlib.Core.Path.{◌≡◌, refl, sym, ap, ◌∙◌}
use mathlib.Core.Bool.{true}
use mathlib.Core.List.{List, ◌∷◌}
use Prim.Native.Nat.{ℕ, ◌+◌, ◌*◌, ◌≤◌}
use native.Mathlib.Nat.{add-zero}
use native.Mathlib.Omega.{arith}
use lib.Dec.{lit≤}
use lib.ListN.{length, replicate}
use Rattle.octets.specs.Octets.{text_bytes}
use Rattle.octets.proofs.Bools.{not_both}
use Rattle.decimal.specs.declared.Instrument.{Instrument}
use Rattle.request.specs.declared.Refusal.{Refusal as Fault}
use Rattle.request.specs.declared.NewOrder.{NewOrder}
use Rattle.request.specs.declared.Replacement.{Replacement}
use Rattle.request.specs.declared.Cancellation.{Cancellation}
use Rattle.request.specs.declared.Asked.{Asked}
use Rattle.request.specs.declared.Asked.TheVariants.{Garbled, Refused, Enters, Replaces, Cancels}
use Rattle.request.specs.Asks.{asked_of}
use Rattle.matching.specs.declared.Order.{Order}
use Rattle.matching.specs.declared.Event.{Event}
use Rattle.matching.specs.declared.Event.TheVariants.{Replaced, Withdrawn}
use Rattle.matching.specs.Matching.{open_of, who, change}
use Rattle.table.specs.declared.record.Marks.{Marks}
use Rattle.table.specs.Places.{table_bytes}
use Rattle.table.specs.Heading.{venue_of, port_of, next_of, instrument_of, put_work}
use Rattle.table.specs.Orders.{order_at, record_for, term_bytes, amount_bytes, record_of, put_id, accepted, replaced, withdrawn}
use Rattle.table.specs.Best.{book_row, put_best, clear_best}
use Rattle.table.specs.Market.{is_market_of}
use Rattle.table.specs.Changes.{numbered, entered, renewed, taken}
use Rattle.table.proofs.Same.{put_below, next_same}
use Rattle.table.proofs.Stores.{next_got}
use Rattle.report.specs.declared.Field.{Field}
use Rattle.report.specs.Fields.{row_bytes}
use Rattle.report.specs.Frame.{report_bytes}
use Rattle.report.proofs.Bytes.{report_length}
use Rattle.ticket.proofs.Short.{ticket_short, refused_short, unchanged_short, faulty_short}
use Rattle.std.specs.Prelude.{Result, Ok, Err}
use Rattle.refusals.specs.declared.Refusal.{Refusal}
use Rattle.calls.specs.declared.OrderReason.{OrderReason}
use Rattle.calls.specs.declared.ChangeReason.{ChangeReason}
use Rattle.calls.specs.declared.ReplyKind.{ReplyKind}
use Rattle.calls.specs.declared.ReplyKind.TheVariants.{SessionReject, OrderReject, ChangeReject, Taken}
use Rattle.calls.specs.declared.Reply.{Reply}
use Rattle.calls.specs.Checks.{text_of, holder, new_stands, cancel_stands, replace_stands}
use Rattle.calls.specs.Submit.{Submitted, rejecting, faulted, new_rejected, change_rejected, marks_of, new_order_of, new_taken, replacement_taken, cancel_taken, entering, replacing, canceling, handled, submitted, submit_length, submit_number}
use Rattle.intake.specs.Intake.{Asking}
use Rattle.intake.proofs.Standing.{new_free, replace_in, cancel_in}
use Rattle.intake.proofs.Doing.{accepted_long, replaced_long, withdrawn_long}
use Rattle.intake.proofs.Legibles.{enter_legible, refused_legible, cancel_unmet, cancel_legible, replace_unmet, replace_legible, unmet_legible, fault_legible}
use Rattle.intake.proofs.Keeping.{Comes, no_room, no_market, in_work, spent, heard, comes}

-- the reports of an answer: one where there is one to read, which is for 0 and for the refusals 6 to 8
abbrev pub reports_of : Result Reply Refusal → ℕ
reports_of (Ok r) = 1
reports_of (Err r) = 0

-- what is counted of a call on t
pub record Counted (t : List ℕ) (s : Submitted) : Type 0 where
  pub reports_are : length s.reports ≡ reports_of s.answer
  pub next_is : next_of s.table ≡ next_of t + length s.reports
  pub short : submit_length s.answer ≤ 512

-- ---- the next number

next_numbered : (t u : List ℕ) → length u ≡ table_bytes → next_of u ≡ next_of t → next_of t ≤ 999998976 → next_of (numbered u 1) ≡ next_of t + 1
unfolding numbered
next_numbered t u long e h = next_got u (next_of u + 1) (omega arith) (omega arith) ∙ ap (λ (n : ℕ). n + 1) e

next_worked : (t u stamp : List ℕ) (w : ℕ) → length u ≡ table_bytes → next_of u ≡ next_of t → next_of t ≤ 999998976
    → next_of (clear_best (put_work (numbered u 1) w stamp)) ≡ next_of t + 1
next_worked t u stamp w long e h =
    next_same (put_below (put_work (numbered u 1) w stamp) 97 (replicate 31 0) 28 32 (lit≤ tt))
    ∙ next_same (put_below (numbered u 1) 32 (w ∷ text_bytes 21 stamp) 28 32 (lit≤ tt)) ∙ next_numbered t u long e h

next_told : (t u : List ℕ) → length u ≡ table_bytes → next_of u ≡ next_of t → next_of t ≤ 999998976 → next_of (put_best (numbered u 1)) ≡ next_of t + 1
next_told t u long e h = next_same (put_below (numbered u 1) 97 (book_row (numbered u 1)) 28 32 (lit≤ tt)) ∙ next_numbered t u long e h

next_accepted : (t : List ℕ) (k orderid : ℕ) (id account : List ℕ) (marks : Marks) (x : Order) → 1 ≤ k
    → next_of (accepted t k orderid id account marks x) ≡ next_of t
unfolding accepted
next_accepted t k orderid id account marks x l = next_same (put_below t (128 * k) (record_of orderid id account marks x) 28 32 (omega arith))

next_named : (t : List ℕ) (k : ℕ) (id : List ℕ) → 1 ≤ k → next_of (put_id t k id) ≡ next_of t
next_named t k id l = next_same (put_below t (128 * k) (text_bytes 32 id) 28 32 (omega arith))

next_replaced : (t id : List ℕ) (e : Event) → 1 ≤ who e → next_of (replaced t id e) ≡ next_of t
unfolding replaced
next_replaced t id e l =
    next_same (put_below (put_id t (who e) id) (128 * who e + 48) (term_bytes (change e (order_at t (who e)))) 28 32 (omega arith)) ∙ next_named t (who e) id l

next_withdrawn : (t id : List ℕ) (e : Event) → 1 ≤ who e → next_of (withdrawn t id e) ≡ next_of t
unfolding withdrawn
next_withdrawn t id e l =
    next_same (put_below (put_id t (who e) id) (128 * who e + 64) (amount_bytes (change e (order_at t (who e)))) 28 32 (omega arith)) ∙ next_named t (who e) id l

-- ---- each request

module _ (t message : List ℕ) where
  rejected_counted : {x : Asked} (row : List Field) (kind : ReplyKind) → Asking t message x → length (row_bytes message t row) ≤ 489 → Counted t (rejecting t message row kind)
  unfolding rejecting
  rejected_counted row kind a s =
      record {
        reports_are = refl;
        next_is = next_numbered t t a.market.long refl a.numbers;
        short = report_length (row_bytes message t row) s;
      }

  faulted_counted : (r : Fault) → Asking t message (Refused r) → Counted t (faulted t message r)
  unfolding faulted
  faulted_counted r a =
      rejected_counted _ SessionReject a (faulty_short t message _ _ _ (fault_legible t message r a))

  new_counted : (o : NewOrder) (s : Result (Unit {0}) OrderReason) → new_stands t message o ≡ s → Asking t message (Enters o) → Counted t (entering t message o s)
  unfolding new_taken new_rejected entered
  new_counted o (Err reason) e a =
      rejected_counted _ OrderReject a (refused_short t message _ _ _ (refused_legible t message o a reason e))
  new_counted o (Ok stands) e a =
      let k : ℕ = record_for t in
      let x : Order = new_order_of t message o in
      let id : List ℕ = text_of message o.id in
      let account : List ℕ = text_of message o.account in
      let u : List ℕ = accepted t k (next_of t) id account (marks_of o) x in
      record {
        reports_are = refl;
        next_is =
            next_worked t u (text_of message o.time) k (accepted_long t u id account k (next_of t) (marks_of o) x a.market.long refl)
            (next_accepted t k (next_of t) id account (marks_of o) x (new_free t message o a e)) a.numbers;
        short = ticket_short u message _ _ _ (enter_legible t message o a e);
      }

  replace_counted : (o : Replacement) (s : Result (Unit {0}) ChangeReason) → replace_stands t message o ≡ s → Asking t message (Replaces o) → Counted t (replacing t message o s)
  unfolding replacement_taken change_rejected renewed
  replace_counted o (Err reason) e a =
      rejected_counted _ ChangeReject a
      (unchanged_short t message _ _ _ (unmet_legible t message _ (replace_unmet t message o a _ refl) reason))
  replace_counted o (Ok stands) e a =
      let k : ℕ = holder t (text_of message o.original) in
      let id : List ℕ = text_of message o.id in
      let v : Event = Replaced k o.level o.quantity (next_of t) in
      let u : List ℕ = replaced t id v in
      record {
        reports_are = refl;
        next_is =
            next_worked t u (text_of message o.time) k (replaced_long t u id v a.market.long refl)
            (next_replaced t id v (replace_in t message o a k refl e).low) a.numbers;
        short = ticket_short u message _ _ _ (replace_legible t message o a k refl e);
      }

  cancel_counted : (o : Cancellation) (s : Result (Unit {0}) ChangeReason) → cancel_stands t message o ≡ s → Asking t message (Cancels o) → Counted t (canceling t message o s)
  unfolding cancel_taken change_rejected taken
  cancel_counted o (Err reason) e a =
      rejected_counted _ ChangeReject a
      (unchanged_short t message _ _ _ (unmet_legible t message _ (cancel_unmet t message o a _ refl) reason))
  cancel_counted o (Ok stands) e a =
      let k : ℕ = holder t (text_of message o.original) in
      let id : List ℕ = text_of message o.id in
      let v : Event = Withdrawn k (open_of (order_at t k)) in
      let u : List ℕ = withdrawn t id v in
      record {
        reports_are = refl;
        next_is =
            next_told t u (withdrawn_long t u id v a.market.long refl) (next_withdrawn t id v (cancel_in t message o a k refl e).low) a.numbers;
        short = ticket_short u message _ _ _ (cancel_legible t message o a k refl e);
      }

  pub handled_counted : (x : Asked) → Asking t message x → Counted t (handled t message x)
  handled_counted Garbled a = record { reports_are = refl; next_is = sym (add-zero (next_of t)); short = omega arith }
  handled_counted (Refused r) a = faulted_counted r a
  handled_counted (Enters o) a = new_counted o (new_stands t message o) refl a
  handled_counted (Replaces o) a = replace_counted o (replace_stands t message o) refl a
  handled_counted (Cancels o) a = cancel_counted o (cancel_stands t message o) refl a

-- ---- the call

pub submitted_counted : (q : Instrument) (t message : List ℕ) (room : ℕ) → Counted t (submitted q t message room)
submitted_counted q t message room = by (comes q t message room)
  where
    by : Comes q t message room → Counted t (submitted q t message room)
    by (no_room a e) = rw e (record { reports_are = refl; next_is = sym (add-zero (next_of t)); short = omega arith })
    by (no_market a n e) = rw e (record { reports_are = refl; next_is = sym (add-zero (next_of t)); short = omega arith })
    by (in_work a n w e) = rw e (record { reports_are = refl; next_is = sym (add-zero (next_of t)); short = omega arith })
    by (spent a n w h e) = rw e (record { reports_are = refl; next_is = sym (add-zero (next_of t)); short = omega arith })
    by (heard a n x e) = rw e (handled_counted t message _ x)

-- a market is never refused as none: among requests, no answer is that
handled_named : (t message : List ℕ) (x : Asked) → submit_number (handled t message x).answer ≡ 2 → ⊥
unfolding faulted new_taken new_rejected replacement_taken cancel_taken change_rejected rejecting
handled_named t message Garbled e = omega arith
handled_named t message (Refused r) e = omega arith
handled_named t message (Enters o) e = by (new_stands t message o) e
  where
    by : (s : Result (Unit {0}) OrderReason) → submit_number (entering t message o s).answer ≡ 2 → ⊥
    by (Ok stands) e = omega arith
    by (Err r) e = omega arith
handled_named t message (Replaces o) e = by (replace_stands t message o) e
  where
    by : (s : Result (Unit {0}) ChangeReason) → submit_number (replacing t message o s).answer ≡ 2 → ⊥
    by (Ok stands) e = omega arith
    by (Err r) e = omega arith
handled_named t message (Cancels o) e = by (cancel_stands t message o) e
  where
    by : (s : Result (Unit {0}) ChangeReason) → submit_number (canceling t message o s).answer ≡ 2 → ⊥
    by (Ok stands) e = omega arith
    by (Err r) e = omega arith

pub submitted_named : (q : Instrument) (t message : List ℕ) (room : ℕ) → is_market_of q t ≡ true → submit_number (submitted q t message room).answer ≡ 2 → ⊥
submitted_named q t message room m = by (comes q t message room)
  where
    by : Comes q t message room → submit_number (submitted q t message room).answer ≡ 2 → ⊥
    by (no_room a e) x = let z : ◌≡◌ {A = ℕ} 1 2 = rw e at x in omega arith
    by (no_market a n e) x = not_both m n
    by (in_work a n w e) x = let z : ◌≡◌ {A = ℕ} 3 2 = rw e at x in omega arith
    by (spent a n w h e) x = let z : ◌≡◌ {A = ℕ} 4 2 = rw e at x in omega arith
    by (heard a n p e) x = handled_named t message (asked_of (instrument_of t) (venue_of t) (port_of t) message) (rw e at x)
