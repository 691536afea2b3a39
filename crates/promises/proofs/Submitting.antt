-- The report of a Submit leads from the table before it to the table after it, whatever the message, if the reports of what is taken
-- tell their events and those of what is rejected are of their kinds.
use mathlib.Core.Path.{◌≡◌, refl, sym, ap}
use mathlib.Core.Bool.{true}
use mathlib.Core.List.{List, [], ◌∷◌, map}
use Prim.Native.Nat.{ℕ, ◌≤◌}
use native.Mathlib.Omega.{arith}
use Rattle.decimal.specs.declared.Instrument.{Instrument}
use Rattle.request.specs.declared.Refusal.{Refusal}
use Rattle.request.specs.declared.NewOrder.{NewOrder}
use Rattle.request.specs.declared.Replacement.{Replacement}
use Rattle.request.specs.declared.Cancellation.{Cancellation}
use Rattle.request.specs.declared.Asked.{Asked}
use Rattle.request.specs.declared.Asked.TheVariants.{Garbled, Refused, Enters, Replaces, Cancels}
use Rattle.decimal.proofs.Times.{time_short}
use Rattle.matching.specs.declared.Order.{Order}
use Rattle.matching.specs.declared.Event.TheVariants.{Accepted, Replaced, Withdrawn}
use Rattle.matching.specs.Matching.{at, open_of}
use Rattle.table.specs.Heading.{next_of, instrument_of}
use Rattle.table.specs.Orders.{order_at, book_of, record_for, accepted, replaced, withdrawn}
use Rattle.table.specs.Facts.{Market}
use Rattle.table.specs.Changes.{numbered, entered, renewed, taken}
use Rattle.table.proofs.Instruments.{market_instrument}
use Rattle.table.proofs.OrderIds.{numbered_order_id, withdrawn_order_id, replaced_order_id}
use Rattle.report.specs.declared.Reading.{Reading}
use Rattle.report.specs.Reports.{read_of}
use Rattle.ticket.specs.Tickets.{ticket_of}
use Rattle.std.specs.Prelude.{Result, Ok, Err}
use Rattle.calls.specs.declared.OrderReason.{OrderReason}
use Rattle.calls.specs.declared.ChangeReason.{ChangeReason}
use Rattle.calls.specs.Checks.{text_of, holder, new_stands, cancel_stands, replace_stands}
use Rattle.calls.specs.Submit.{Submitted, cause_of, sent_at, no_text, rejecting, faulted, new_rejected, change_rejected, marks_of, new_order_of, new_taken, replacement_taken, cancel_taken, entering, replacing, canceling, handled, submitted}
use Rattle.intake.specs.Intake.{Asking}
use Rattle.intake.proofs.Standing.{new_named, new_account, new_account_short, new_marked, new_enters, new_time, cancel_in, cancel_at, cancel_named, replace_in, replace_named, replace_renews, replace_time}
use Rattle.intake.proofs.Keeping.{Comes, no_room, no_market, in_work, spent, heard, comes}
use Rattle.intake.proofs.Counting.{Counted, handled_counted}
use Rattle.promises.proofs.Leads.{Leads, leads_still, is_silent, leads_silent}
use Rattle.promises.proofs.Playing.{TellsOn}
use Rattle.promises.proofs.Requested.{book_numbered, book_working, book_told, ids_working, ids_told, long_accepted, book_accepted, id_accepted, ids_others, long_withdrawn, book_withdrawn, long_replaced, book_replaced}
use Rattle.promises.proofs.Asked.{changed_leads, new_order_leads}

-- ---- what is asked of the reports of Submit

-- a report of the three kinds that tell of no order's amounts
abbrev pub Silent : Instrument → List (List ℕ) → Type 0
Silent q [] = Unit {0}
Silent q (r ∷ rs) = is_silent (read_of q r).kind ≡ true

module _ (q : Instrument) (t message : List ℕ) where
  -- of what is taken: they tell their events on the table after them
  abbrev pub NewTells : NewOrder → Type 0
  NewTells o =
      let k = record_for t in
      let u = accepted t k (next_of t) (text_of message o.id) (text_of message o.account) (marks_of o) (new_order_of t message o) in
      let e = Accepted k (new_order_of t message o) in
      TellsOn u e (read_of q (ticket_of u message (next_of t) (cause_of o.time no_text) e))

  abbrev pub ReplaceTells : Replacement → ℕ → Type 0
  ReplaceTells o k =
      let e = Replaced k o.level o.quantity (next_of t) in
      let u = replaced t (text_of message o.id) e in
      TellsOn u e (read_of q (ticket_of u message (next_of t) (cause_of o.time (sent_at o.original)) e))

  abbrev pub CancelTells : Cancellation → ℕ → Type 0
  CancelTells o k =
      let e = Withdrawn k (open_of (order_at t k)) in
      let u = withdrawn t (text_of message o.id) e in
      TellsOn u e (read_of q (ticket_of u message (next_of t) (cause_of o.time (sent_at o.original)) e))

-- all of it
pub record Told (q : Instrument) : Type 0 where
  pub new : (t message : List ℕ) (o : NewOrder) → Asking t message (Enters o) → instrument_of t ≡ q → new_stands t message o ≡ Ok tt → NewTells q t message o
  pub replace : (t message : List ℕ) (o : Replacement) → Asking t message (Replaces o) → instrument_of t ≡ q → replace_stands t message o ≡ Ok tt
      → ReplaceTells q t message o (holder t (text_of message o.original))
  pub cancel : (t message : List ℕ) (o : Cancellation) → Asking t message (Cancels o) → instrument_of t ≡ q → cancel_stands t message o ≡ Ok tt
      → CancelTells q t message o (holder t (text_of message o.original))
  pub fault : (t message : List ℕ) (r : Refusal) → Asking t message (Refused r) → instrument_of t ≡ q → Silent q (faulted t message r).reports
  pub new_fails : (t message : List ℕ) (o : NewOrder) (n : OrderReason) → Asking t message (Enters o) → instrument_of t ≡ q → new_stands t message o ≡ Err n
      → Silent q (new_rejected t message o n).reports
  pub replace_fails : (t message : List ℕ) (o : Replacement) (n : ChangeReason) → Asking t message (Replaces o) → instrument_of t ≡ q → replace_stands t message o ≡ Err n
      → Silent q (change_rejected t message o.time o.id o.original (holder t (text_of message o.original)) n 2).reports
  pub cancel_fails : (t message : List ℕ) (o : Cancellation) (n : ChangeReason) → Asking t message (Cancels o) → instrument_of t ≡ q → cancel_stands t message o ≡ Err n
      → Silent q (change_rejected t message o.time o.id o.original (holder t (text_of message o.original)) n 1).reports

-- what a Submitted leads to
abbrev pub LeadsTo : Instrument → List ℕ → Submitted → Type 0
LeadsTo q t s = Leads t s.table (map (read_of q) s.reports)

-- ---- each request: counted says that the next number has grown
module _ (q : Instrument) (told : Told q) (t message : List ℕ) where
  rejected_leads : (r : Reading) → Market t → next_of t ≤ next_of (numbered t 1) → is_silent r.kind ≡ true → Leads t (numbered t 1) (r ∷ [])
  rejected_leads r m l h = leads_silent t (numbered t 1) r m (book_numbered t 1 m.long) (λ i. numbered_order_id t i 1) l h

  fault_leads : (r : Refusal) → Asking t message (Refused r) → instrument_of t ≡ q → Counted t (faulted t message r) → LeadsTo q t (faulted t message r)
  unfolding faulted rejecting
  fault_leads r a k c = rejected_leads _ a.market (omega (arith, c.next_is)) (told.fault t message r a k)

  new_leads : (o : NewOrder) (s : Result (Unit {0}) OrderReason) → new_stands t message o ≡ s → Asking t message (Enters o) → instrument_of t ≡ q → Counted t (entering t message o s)
      → LeadsTo q t (entering t message o s)
  unfolding new_taken new_rejected rejecting entered
  new_leads o (Err n) e a i c = rejected_leads _ a.market (omega (arith, c.next_is)) (told.new_fails t message o n a i e)
  new_leads o (Ok stands) e a i c =
      let few = new_account_short t message o a in
      let printable = new_account t message o a in
      let marked = new_marked t message o a in
      let g = new_named t message o a e in
      let n = new_enters t message o a e in
      let short = time_short (text_of message o.time) (new_time t message o a) in
      let long = long_accepted t (record_for t) _ _ _ _ a.market g few printable marked n in
      new_order_leads t _ _ (record_for t) (new_order_of t message o) _ a.market
      (record { number = n.number; unexecuted = refl; undecremented = refl; uncanceled = refl; unsummed = refl })
      (book_accepted t (record_for t) _ _ _ _ a.market g few printable marked n)
      (book_working _ 1 (record_for t) _ long short)
      (id_accepted t (record_for t) _ _ _ _ a.market g few printable marked n)
      (ids_others t (record_for t) _ _ _ _ a.market g few printable marked n)
      (ids_working _ 1 (record_for t) _ short) c.next_is (told.new t message o a i e)

  replace_leads : (o : Replacement) (s : Result (Unit {0}) ChangeReason) → replace_stands t message o ≡ s → Asking t message (Replaces o) → instrument_of t ≡ q → Counted t (replacing t message o s)
      → LeadsTo q t (replacing t message o s)
  unfolding replacement_taken change_rejected rejecting renewed
  replace_leads o (Err n) e a z c = rejected_leads _ a.market (omega (arith, c.next_is)) (told.replace_fails t message o n a z e)
  replace_leads o (Ok stands) e a z c =
      let k : ℕ = holder t (text_of message o.original) in
      let i = replace_in t message o a k refl e in
      let g = replace_named t message o a k refl e in
      let n = replace_renews t message o a k refl e in
      let short = time_short (text_of message o.time) (replace_time t message o a k refl e) in
      changed_leads t _ _ (Replaced k o.level o.quantity (next_of t)) _ a.market i tt refl
      (book_replaced t k _ a.market i g _ _ _ n)
      (book_working _ 1 k _ (long_replaced t k _ a.market i g _ _ _ n) short)
      (λ i. replaced_order_id t i _ _ g.short) (ids_working _ 1 k _ short) (omega (arith, c.next_is)) (told.replace t message o a z e) refl

  cancel_leads : (o : Cancellation) (s : Result (Unit {0}) ChangeReason) → cancel_stands t message o ≡ s → Asking t message (Cancels o) → instrument_of t ≡ q → Counted t (canceling t message o s)
      → LeadsTo q t (canceling t message o s)
  unfolding cancel_taken change_rejected rejecting taken
  cancel_leads o (Err n) e a y c = rejected_leads _ a.market (omega (arith, c.next_is)) (told.cancel_fails t message o n a y e)
  cancel_leads o (Ok stands) e a y c =
      let k : ℕ = holder t (text_of message o.original) in
      let i = cancel_in t message o a k refl e in
      let g = cancel_named t message o a k refl e in
      let z : open_of (order_at t k) ≡ open_of (at (book_of t) k) = ap (λ (x : Order). open_of x) (sym (cancel_at t message o a k refl e)) in
      changed_leads t _ _ (Withdrawn k (open_of (order_at t k))) _ a.market i z refl
      (book_withdrawn t k _ a.market i g _ z)
      (book_told _ 1 (long_withdrawn t k _ a.market i g _ z))
      (λ i. withdrawn_order_id t i _ _ g.short) (ids_told _ 1) (omega (arith, c.next_is)) (told.cancel t message o a y e) refl

  handled_leads : (x : Asked) → Asking t message x → instrument_of t ≡ q → Counted t (handled t message x) → LeadsTo q t (handled t message x)
  handled_leads Garbled a i c = leads_still t
  handled_leads (Refused r) a i c = fault_leads r a i c
  handled_leads (Enters o) a i c = new_leads o (new_stands t message o) refl a i c
  handled_leads (Replaces o) a i c = replace_leads o (replace_stands t message o) refl a i c
  handled_leads (Cancels o) a i c = cancel_leads o (cancel_stands t message o) refl a i c

  pub submitted_leads : (room : ℕ) → LeadsTo q t (submitted q t message room)
  submitted_leads room = by (comes q t message room)
    where
      by : Comes q t message room → LeadsTo q t (submitted q t message room)
      by (no_room a e) = rw e (leads_still t)
      by (no_market a n e) = rw e (leads_still t)
      by (in_work a n w e) = rw e (leads_still t)
      by (spent a n w h e) = rw e (leads_still t)
      by (heard a n x e) = rw e (handled_leads _ x (market_instrument q t n) (handled_counted t message _ x))
