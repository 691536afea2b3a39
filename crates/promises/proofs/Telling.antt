-- Every report that the market writes tells what it is of: those of the events of a step, of what Submit takes, and of what it rejects.
use mathlib.Core.Path.{◌≡◌, refl, sym, ap, ◌∙◌}
use mathlib.Core.Bool.{Bool, true, not, ◌&&◌, ◌||◌}
use mathlib.Core.List.{List, [], ◌∷◌}
use Prim.Native.Nat.{ℕ, ◌+◌, ◌≤◌}
use native.Mathlib.Omega.{arith}
use lib.Dec.{eqb, ltb}
use Rattle.octets.proofs.Bools.{split}
use Rattle.decimal.specs.Reading.{is_time}
use Rattle.decimal.specs.declared.Instrument.{Instrument}
use Rattle.fix.specs.declared.frame.Part.{Part}
use Rattle.fix.proofs.Values.{Spelt, Timed}
use Rattle.request.specs.declared.Refusal.{Refusal}
use Rattle.request.specs.declared.NewOrder.{NewOrder}
use Rattle.request.specs.declared.Replacement.{Replacement}
use Rattle.request.specs.declared.Cancellation.{Cancellation}
use Rattle.request.specs.declared.Asked.{Asked}
use Rattle.request.specs.declared.Asked.TheVariants.{Refused, Enters, Replaces, Cancels}
use Rattle.request.specs.Session.{one_of}
use Rattle.request.proofs.Requests.{enters_right}
use Rattle.request.proofs.Saying.{code_low, code_high, enters_spelt, replaces_spelt, cancels_spelt}
use Rattle.request.proofs.Refusals.{refused_spelt}
use Rattle.matching.specs.declared.Event.{Event}
use Rattle.matching.specs.declared.Event.TheVariants.{Accepted, Replaced, Withdrawn, Canceled, Decremented, Traded, Killed, Expired}
use Rattle.matching.specs.Matching.{open_of}
use Rattle.matching.specs.Accounts.{trades}
use Rattle.table.specs.Heading.{next_of, work_of, instrument_of, is_listed}
use Rattle.table.specs.Orders.{order_at, record_for, applied}
use Rattle.table.specs.Market.{is_printable}
use Rattle.table.specs.Facts.{Market}
use Rattle.table.specs.Changes.{step_events}
use Rattle.table.proofs.Frames.{market_formed}
use Rattle.report.specs.declared.Reading.{Reading}
use Rattle.report.specs.Reports.{read_of}
use Rattle.ticket.specs.declared.Cause.{Cause}
use Rattle.ticket.specs.Tickets.{ticket_of, kept_cause}
use Rattle.ticket.specs.Legible.{text_by, is_symbol_character, is_among, Placed, Headed, Legible}
use Rattle.ticket.proofs.Formed.{formed_headed}
use Rattle.ticket.proofs.Running.{Legibles, step_legibles}
use Rattle.ticket.proofs.Taking.{sent_text, sent_placed, new_legible, replaced_legible, withdrawn_legible, market_holder, unchanged_legible}
use Rattle.readback.specs.Told.{quantity_told}
use Rattle.readback.proofs.Events.{event_says, refused_is_read, unchanged_is_read, faulty_is_read}
use Rattle.std.specs.Prelude.{Ok, Err}
use Rattle.calls.specs.declared.OrderReason.{OrderReason}
use Rattle.calls.specs.declared.ChangeReason.{ChangeReason}
use Rattle.calls.specs.Checks.{text_of, holder, change_number, new_stands, cancel_stands, replace_stands}
use Rattle.calls.specs.Submit.{cause_of, sent_at, no_text, rejecting, faulted, new_rejected, change_rejected}
use Rattle.calls.specs.Run.{event_report}
use Rattle.intake.specs.Intake.{Asking}
use Rattle.intake.proofs.Legibles.{new_reason, change_reason}
use Rattle.intake.proofs.Standing.{between_printable, between_symbols, side_is, holder_few, new_named, new_account, new_account_short, new_marked, new_quoted, new_enters, cancel_in, cancel_named, replace_in, replace_named, replace_renews, replace_quoted}
use Rattle.promises.proofs.Requested.{kind_accepted, kind_withdrawn, kind_replaced}
use Rattle.promises.proofs.Agreeing.{applied_instrument}
use Rattle.promises.proofs.Leads.{is_silent}
use Rattle.promises.proofs.Playing.{TellsOn, TellsAll}
use Rattle.promises.proofs.Running.{StepTells}
use Rattle.promises.proofs.Submitting.{Told, NewTells, ReplaceTells, CancelTells, Silent}

-- ---- what is read of an event is what it tells; its 32 is what it trades
quantity_told_lem : (e : Event) → quantity_told e ≡ trades e
quantity_told_lem (Accepted n o) = refl
quantity_told_lem (Replaced n l q p) = refl
quantity_told_lem (Withdrawn n q) = refl
quantity_told_lem (Canceled n q) = refl
quantity_told_lem (Decremented n q) = refl
quantity_told_lem (Traded n m q l) = refl
quantity_told_lem (Killed n q) = refl
quantity_told_lem (Expired n q) = refl

legible_tells : (q : Instrument) (t message : List ℕ) (n : ℕ) (c : Cause) (e : Event) → instrument_of t ≡ q → Legible t message n c e
    → TellsOn t e (read_of q (ticket_of t message n c e))
legible_tells q t message n c e k h =
    let s = rw k at (event_says t message n c e h) in
    record {
      kind = s.is_kind;
      order = s.says_37;
      quantity = s.says_38;
      left = s.says_151;
      executed = s.says_32 ∙ quantity_told_lem e;
      reason = s.says_378;
      side = s.says_54;
      mpid = s.says_109;
    }

-- ---- the events of a step
all_tell : (q : Instrument) (es : List Event) (t : List ℕ) (n : ℕ) → instrument_of t ≡ q → Legibles t n es → TellsAll (read_of q) t n es
unfolding event_report
all_tell q [] t n k h = tt
all_tell q (e ∷ es) t n k h =
    let u : List ℕ = applied t e in
    let i : instrument_of u ≡ q = applied_instrument t e ∙ k in (
      record { event = legible_tells q u [] n (kept_cause u) e i h.0; pair = (rw i at (event_says u [] n (kept_cause u) e h.0)).says_880 },
      all_tell q es u (n + 1) i h.1,
    )

pub step_tells : (q : Instrument) (t : List ℕ) → Market t → instrument_of t ≡ q → 1 ≤ work_of t → StepTells (read_of q) t
step_tells q t m k l = all_tell q (step_events t) t (next_of t) k (step_legibles t m l)

-- ---- texts of the message
module _ (message t : List ℕ) (p : Part) where
  placed_text : (most : ℕ) → Spelt message p 1 most 32 126 → Placed is_printable 1 most message t (sent_at p)
  placed_text most s =
      sent_placed message t p.start p.len is_printable 1 most s.some (omega (arith, s.long, s.short)) (between_printable _ s.bytes)

  -- a bond's code or a share's symbol
  placed_code : (q : Instrument) → Spelt message p 1 9 (code_low q) (code_high q) → Placed (is_symbol_character q) 1 9 message t (sent_at p)
  placed_code q s =
      sent_placed message t p.start p.len (is_symbol_character q) 1 9 s.some (omega (arith, s.long, s.short)) (between_symbols q _ s.bytes)

  sent_time : Timed message p → is_time (text_by message t (sent_at p)) ≡ true
  sent_time s = rw (sent_text message t p.start p.len) s.right

-- the heading of a report of Submit
headed : (t message : List ℕ) (p : Part) {x : Asked} → Asking t message x → Timed message p → Headed t message (next_of t) (sent_at p)
headed t message p a s =
    formed_headed t (market_formed t a.market) message (next_of t) (sent_at p) a.market.next_low (omega (arith, a.numbers)) (sent_time message t p s)

-- ---- what is taken
module _ (q : Instrument) (t message : List ℕ) where
  new_tells : (o : NewOrder) → Asking t message (Enters o) → instrument_of t ≡ q → new_stands t message o ≡ Ok tt → NewTells q t message o
  new_tells o a i e =
      let few = new_account_short t message o a in
      let printable = new_account t message o a in
      let marked = new_marked t message o a in
      let g = new_named t message o a e in
      let n = new_enters t message o a e in
      let k = kind_accepted t (record_for t) _ _ _ _ a.market g few printable marked n in
      legible_tells q _ message (next_of t) (cause_of o.time no_text) _ (k ∙ i)
      (new_legible t message (record_for t) _ _ _ _ (cause_of o.time no_text) a.market a.idle g few printable marked (new_quoted t message o a) n
      (sent_time message _ o.time (enters_spelt _ _ _ message o a.asks).time))

  replace_tells : (o : Replacement) → Asking t message (Replaces o) → instrument_of t ≡ q → replace_stands t message o ≡ Ok tt
      → ReplaceTells q t message o (holder t (text_of message o.original))
  replace_tells o a z e =
      let k : ℕ = holder t (text_of message o.original) in
      let s = replaces_spelt _ _ _ message o a.asks in
      let i = replace_in t message o a k refl e in
      let c : Cause = cause_of o.time (sent_at o.original) in
      legible_tells q _ message (next_of t) c _ (kind_replaced t _ _ i.low ∙ z)
      (replaced_legible t message (text_of message o.id) k c a.market a.idle i (replace_named t message o a k refl e)
      o.level o.quantity (next_of t) (replace_renews t message o a k refl e) (replace_quoted t message o a) (sent_time message _ o.time s.time)
      (placed_text message _ o.original 32 s.original))

  cancel_tells : (o : Cancellation) → Asking t message (Cancels o) → instrument_of t ≡ q → cancel_stands t message o ≡ Ok tt
      → CancelTells q t message o (holder t (text_of message o.original))
  cancel_tells o a z e =
      let k : ℕ = holder t (text_of message o.original) in
      let s = cancels_spelt _ _ _ message o a.asks in
      let i = cancel_in t message o a k refl e in
      let c : Cause = cause_of o.time (sent_at o.original) in
      legible_tells q _ message (next_of t) c _ (kind_withdrawn t _ _ i.low ∙ z)
      (withdrawn_legible t message (text_of message o.id) k c a.market a.idle i (cancel_named t message o a k refl e)
      a.numbers (sent_time message _ o.time s.time) (placed_text message _ o.original 32 s.original))

-- ---- what is rejected

-- one of a list
among_of : (ns : List ℕ) (x : ℕ) → one_of x ns ≡ is_among ns x
unfolding one_of
among_of [] x = refl
among_of (n ∷ ns) x = ap (λ (b : Bool). eqb x n || b) (among_of ns x)

-- each report is of its own kind, and so of no order's amounts
abbrev silent : Reading → Bool
silent r = is_silent r.kind

module _ (q : Instrument) (t message : List ℕ) where
  fault_silent : (r : Refusal) → Asking t message (Refused r) → instrument_of t ≡ q → Silent q (faulted t message r).reports
  unfolding faulted rejecting
  fault_silent r a z =
      let s = refused_spelt _ _ _ message r a.asks in
      rw (← z)
      (ap silent (faulty_is_read t message (next_of t) (sent_at r.time) _
      (record {
        heading = headed t message r.time a s.time;
        sequence_low = s.number_low;
        sequence_high = s.number_high;
        tag_low = s.tag_low;
        tag_high = omega (arith, s.tag_high);
        kind = placed_text message t r.kind 2 s.kind;
        reason = sym (among_of _ r.reason) ∙ s.reason_is;
      })))

  new_silent : (o : NewOrder) (n : OrderReason) → Asking t message (Enters o) → instrument_of t ≡ q → new_stands t message o ≡ Err n → Silent q (new_rejected t message o n).reports
  unfolding new_rejected rejecting
  new_silent o n a z e =
      let s = enters_spelt _ _ _ message o a.asks in
      let g = enters_right _ _ _ message o a.asks in
      rw (← z)
      (ap silent (refused_is_read t message (next_of t) (sent_at o.time) _
      (record {
        heading = headed t message o.time a s.time;
        cl_ord_id = placed_text message t o.id 32 s.id;
        code = placed_code message t o.code (instrument_of t) s.code;
        quantity = g.sized.quantity_high;
        side = side_is (instrument_of t) o.terms.side g.sized.side_is;
        reason = new_reason n;
      })))

  change_silent : (time id original : Part) {x : Asked} (n : ChangeReason) (response : ℕ) → Asking t message x → instrument_of t ≡ q → Timed message time → Spelt message id 1 32 32 126
      → Spelt message original 1 32 32 126 → is_among (1 ∷ 2 ∷ []) response ≡ true
      → Silent q (change_rejected t message time id original (holder t (text_of message original)) n response).reports
  unfolding change_rejected rejecting
  change_silent time id original n response a z s b c r =
      let k : ℕ = holder t (text_of message original) in
      rw (← z)
      (ap silent (unchanged_is_read t message (next_of t) (sent_at time) _
      (unchanged_legible t message (next_of t) (sent_at time) k (sent_at id) (sent_at original) (change_number n) response (headed t message time a s)
      (market_holder t k a.market (holder_few t (text_of message original))) (placed_text message t id 32 b) (placed_text message t original 32 c) (change_reason n) r)))

  replace_silent : (o : Replacement) (n : ChangeReason) → Asking t message (Replaces o) → instrument_of t ≡ q → replace_stands t message o ≡ Err n
      → Silent q (change_rejected t message o.time o.id o.original (holder t (text_of message o.original)) n 2).reports
  replace_silent o n a z e =
      let s = replaces_spelt _ _ _ message o a.asks in
      change_silent o.time o.id o.original n 2 a z s.time s.id s.original refl

  cancel_silent : (o : Cancellation) (n : ChangeReason) → Asking t message (Cancels o) → instrument_of t ≡ q → cancel_stands t message o ≡ Err n
      → Silent q (change_rejected t message o.time o.id o.original (holder t (text_of message o.original)) n 1).reports
  cancel_silent o n a z e =
      let s = cancels_spelt _ _ _ message o a.asks in
      change_silent o.time o.id o.original n 1 a z s.time s.id s.original refl

-- all that is asked of the reports of Submit
pub all_told : (q : Instrument) → Told q
all_told q =
    record {
      new = new_tells q;
      replace = replace_tells q;
      cancel = cancel_tells q;
      fault = fault_silent q;
      new_fails = new_silent q;
      replace_fails = replace_silent q;
      cancel_fails = cancel_silent q;
    }
