-- What each request leaves, from what was written: the answer, the table, and the report area.
use mathlib.Core.Path.{◌≡◌, ap, ◌∙◌}
use mathlib.Core.List.{List, [], ◌∷◌, append-nil}
use Prim.Native.Nat.{ℕ, ◌+◌, ◌≤◌}
use native.Mathlib.Omega.{arith}
use lib.ListN.{length}
use Rattle.octets.specs.Octets.{le_at, put}
use Rattle.octets.specs.Written.{Wrote}
use Rattle.fix.specs.declared.frame.Part.{Part}
use Rattle.request.specs.declared.Refusal.{Refusal as Fault}
use Rattle.request.specs.declared.NewOrder.{NewOrder}
use Rattle.request.specs.declared.Replacement.{Replacement}
use Rattle.request.specs.declared.Cancellation.{Cancellation}
use Rattle.matching.specs.declared.Order.{Order}
use Rattle.matching.specs.declared.Event.TheVariants.{Accepted, Replaced, Withdrawn}
use Rattle.matching.specs.Matching.{open_of}
use Rattle.table.specs.declared.record.Marks.{Marks}
use Rattle.table.specs.Heading.{next_of, put_next, put_work}
use Rattle.table.specs.Orders.{order_at, record_for, accepted, replaced, withdrawn}
use Rattle.table.specs.Best.{put_best, clear_best}
use Rattle.table.specs.Changes.{numbered, entered, renewed, taken}
use Rattle.report.specs.declared.Place.{Place}
use Rattle.report.specs.declared.Field.{Field}
use Rattle.report.specs.Fields.{row_bytes}
use Rattle.report.specs.Frame.{report_bytes}
use Rattle.rows.specs.declared.Unchanged.{Unchanged}
use Rattle.ticket.specs.declared.Cause.{Cause}
use Rattle.ticket.specs.Tickets.{ticket_of, refused_row, unchanged_on, unchanged_row, faulty_row}
use Rattle.std.specs.Prelude.{Result, Ok, Err}
use Rattle.calls.specs.declared.OrderReason.{OrderReason}
use Rattle.calls.specs.declared.ChangeReason.{ChangeReason}
use Rattle.calls.specs.declared.ReplyKind.{ReplyKind}
use Rattle.calls.specs.declared.ReplyKind.TheVariants.{SessionReject, OrderReject, ChangeReject, Taken}
use Rattle.calls.specs.declared.Reply.{Reply}
use Rattle.refusals.specs.declared.Refusal.{Refusal}
use Rattle.calls.specs.Told.{joined, area_after}
use Rattle.calls.specs.Checks.{text_of, order_number, change_number}
use Rattle.calls.specs.Submit.{reported, sent_at, no_text, cause_of, marks_of, rejecting, faulted, new_rejected, change_rejected, new_order_of, new_taken, replacement_taken, cancel_taken}
use Rattle.intake.specs.declared.rejects.Change.{Change}
use Rattle.intake.specs.Intake.{order_with, Left}

-- ---- one report

area_one : (area report after : List ℕ) → after ≡ put area 0 report → after ≡ area_after area (report ∷ [])
unfolding joined
area_one area report after e = rw append-nil e

-- what is answered of a report of so many bytes
abbrev replied : ReplyKind → ℕ → Result Reply Refusal
replied kind n = Ok (record { kind = kind; len = n })

pub reported_left : (t report area after : List ℕ) (len : ℕ) (kind : ReplyKind) (u : List ℕ) → Wrote area 0 report len after → u ≡ t
    → Left (reported t report kind) area (Ok (record { kind = kind; len = len })) u after
reported_left t report area after len kind u w e =
    let z : len ≡ length report = omega (arith, w.place) in
    record { answers = ap (replied kind) z; table_is = e; area_is = area_one area report after w.bytes_in }

-- ---- the heading

pub raised : (t u : List ℕ) (n : ℕ) → n ≡ le_at 4 t 28 → u ≡ put_next t (n + 1) → u ≡ numbered t 1
unfolding numbered
raised t u n e q = rw (← e) q

pub raised_worked : (t u v message stamp : List ℕ) (w : ℕ) (time : Part) → u ≡ numbered t 1 → stamp ≡ text_of message time → v ≡ put_work u w stamp
    → (z : List ℕ) → z ≡ clear_best v → z ≡ clear_best (put_work (numbered t 1) w (text_of message time))
raised_worked t u v message stamp w time e s q z c = c ∙ ap clear_best (q ∙ rw (e, s))

pub raised_told : (t u v : List ℕ) → u ≡ numbered t 1 → v ≡ put_best u → v ≡ put_best (numbered t 1)
raised_told t u v e q = q ∙ ap put_best e

pub stamp_short : (message stamp : List ℕ) (time : Part) → stamp ≡ text_of message time → length (text_of message time) ≤ 21 → length stamp ≤ 21
stamp_short message stamp time e h = rw e h

-- ---- a new record

pub written_new : (t u message id account : List ℕ) (k orderid : ℕ) (marks : Marks) (o : NewOrder) (x : Order) → id ≡ text_of message o.id
    → account ≡ text_of message o.account → u ≡ accepted t k orderid id account marks x
    → u ≡ accepted t k orderid (text_of message o.id) (text_of message o.account) marks x
written_new t u message id account k orderid marks o x i j e = rw (← i, ← j) e

-- ---- the cause

pub alone_is : (time : Part) (p : Place) → p ≡ sent_at time → ◌≡◌ {A = Cause} (record { time = p; orig = no_text }) (cause_of time no_text)
alone_is time p e = ap (λ (x : Place). record { time = x; orig = no_text }) e

pub with_is : (time original : Part) (p q : Place) → p ≡ sent_at time → q ≡ sent_at original
    → ◌≡◌ {A = Cause} (record { time = p; orig = q }) (cause_of time (sent_at original))
with_is time original p q e d = λ j. record { time = e j; orig = d j }

-- ---- what is rejected

module _ (t message area after : List ℕ) (len : ℕ) (u : List ℕ) (e : u ≡ numbered t 1) where
  pub rejecting_left : (row : List Field) (kind : ReplyKind) → Wrote area 0 (report_bytes (row_bytes message t row)) len after
      → Left (rejecting t message row kind) area (Ok (record { kind = kind; len = len })) u after
  unfolding rejecting
  rejecting_left row kind w = reported_left (numbered t 1) (report_bytes (row_bytes message t row)) area after len kind u w e

module _ (t message area after : List ℕ) (len n : ℕ) (u : List ℕ) (q : n ≡ next_of t) (e : u ≡ numbered t 1) where
  -- a message with a fault
  pub fault_left : (r : Fault) (kind time : Place) → kind ≡ sent_at r.kind → time ≡ sent_at r.time
      → Wrote area 0 (report_bytes (row_bytes message t (faulty_row t n time (record { sequence = r.number; tag = r.tag; kind = kind; reason = r.reason })))) len after
      → Left (faulted t message r) area (Ok (record { kind = SessionReject; len = len })) u after
  unfolding faulted
  fault_left r kind time a b w = rejecting_left t message area after len u e _ SessionReject (rw (q, a, b) at w)

  -- a new order
  pub refuse_left : (o : NewOrder) (reason : OrderReason) (number : ℕ) (id code time : Place) → id ≡ sent_at o.id → code ≡ sent_at o.code → time ≡ sent_at o.time → number ≡ order_number reason
      → Wrote area 0
      (report_bytes (row_bytes message t (refused_row t n time (record { id = id; quantity = o.terms.quantity; side = o.terms.side; code = code; reason = number }))))
      len after
      → Left (new_rejected t message o reason) area (Ok (record { kind = OrderReject; len = len })) u after
  unfolding new_rejected
  refuse_left o reason number id code time a b c d w = rejecting_left t message area after len u e _ OrderReject (rw (q, a, b, c, d) at w)

  -- a cancel or a replacement
  pub change_left : (x : Change) (reason : ChangeReason) (number : ℕ) (when new orig : Place) (said : Unchanged) → when ≡ sent_at x.time → new ≡ sent_at x.id
      → orig ≡ sent_at x.original → number ≡ change_number reason → said ≡ unchanged_on t x.holder new orig number x.response
      → Wrote area 0 (report_bytes (row_bytes message t (unchanged_row t n when said))) len after
      → Left (change_rejected t message x.time x.id x.original x.holder reason x.response) area (Ok (record { kind = ChangeReject; len = len })) u after
  unfolding change_rejected
  change_left x reason number when new orig said a b c z d w =
      rejecting_left t message area after len u e _ ChangeReject (rw (q, a, d, b, c, z) at w)

-- ---- what is taken

module _ (t message area after : List ℕ) (len n : ℕ) (q : n ≡ next_of t) (c : Cause) where
  -- a new order
  module _ (o : NewOrder) (b : c ≡ cause_of o.time no_text) (k : ℕ) (g : k ≡ record_for t) (x : Order) (y : x ≡ order_with o.terms n) (u : List ℕ)
      (z : u ≡ accepted t k n (text_of message o.id) (text_of message o.account) (marks_of o) x) where
    order_is : x ≡ new_order_of t message o
    order_is = y ∙ rw q

    after_is : u ≡ accepted t (record_for t) (next_of t) (text_of message o.id) (text_of message o.account) (marks_of o)
        (new_order_of t message o)
    after_is = z ∙ rw (g, q, order_is)

    pub enter_left : Wrote area 0 (ticket_of u message n c (Accepted k x)) len after → (v : List ℕ)
        → v ≡ clear_best (put_work (numbered u 1) k (text_of message o.time)) → Left (new_taken t message o) area (Ok (record { kind = Taken; len = len })) v after
    unfolding new_taken entered
    enter_left w v h = reported_left _ _ area after len Taken v (rw (after_is, q, b, g, order_is) at w) (rw (after_is, g) at h)

  -- a replacement
  module _ (o : Replacement) (k : ℕ) (b : c ≡ cause_of o.time (sent_at o.original)) (id : List ℕ) (i : id ≡ text_of message o.id) (u : List ℕ)
      (z : u ≡ replaced t id (Replaced k o.level o.quantity n)) where
    pub renew_left : Wrote area 0 (ticket_of u message n c (Replaced k o.level o.quantity n)) len after → (v : List ℕ)
        → v ≡ clear_best (put_work (numbered u 1) k (text_of message o.time)) → Left (replacement_taken t message o k) area (Ok (record { kind = Taken; len = len })) v after
    unfolding replacement_taken renewed
    renew_left w v h =
        reported_left _ _ area after len Taken v (rw (z, i, b, q) at w) (rw (z, i, q) at h)

  -- a cancel
  module _ (o : Cancellation) (k : ℕ) (b : c ≡ cause_of o.time (sent_at o.original)) (x : ℕ) (y : x ≡ open_of (order_at t k))
      (id : List ℕ) (i : id ≡ text_of message o.id) (u : List ℕ) (z : u ≡ withdrawn t id (Withdrawn k x)) where
    pub withdraw_left : Wrote area 0 (ticket_of u message n c (Withdrawn k x)) len after → (v : List ℕ)
        → v ≡ put_best (numbered u 1) → Left (cancel_taken t message o k) area (Ok (record { kind = Taken; len = len })) v after
    unfolding cancel_taken taken
    withdraw_left w v h =
        reported_left _ _ area after len Taken v (rw (z, y, i, b, q) at w) (rw (z, y, i) at h)
