-- Every report that Submit writes is legible, on the table that it is written from; and the event of a request that is taken can
-- happen to the book.
use mathlib.Core.Path.{◌≡◌, refl, ap, ◌∙◌}
use mathlib.Core.Bool.{true, not, ◌&&◌, ◌||◌}
use mathlib.Core.List.{List, [], ◌∷◌}
use Prim.Native.Nat.{ℕ, ◌+◌}
use native.Mathlib.Omega.{arith}
use lib.Dec.{eqb, ltb, lit≤}
use lib.ListN.{length}
use Rattle.octets.proofs.Bools.{split}
use Rattle.decimal.specs.Reading.{is_time}
use Rattle.fix.specs.declared.frame.Part.{Part}
use Rattle.fix.proofs.Values.{Spelt}
use Rattle.request.specs.declared.Refusal.{Refusal}
use Rattle.request.specs.declared.NewOrder.{NewOrder}
use Rattle.request.specs.declared.Replacement.{Replacement}
use Rattle.request.specs.declared.Cancellation.{Cancellation}
use Rattle.request.specs.declared.Asked.{Asked}
use Rattle.request.specs.declared.Asked.TheVariants.{Refused, Enters, Replaces, Cancels}
use Rattle.request.specs.Session.{one_of}
use Rattle.request.proofs.Requests.{enters_right}
use Rattle.request.proofs.Saying.{enters_spelt, replaces_spelt, cancels_spelt}
use Rattle.request.proofs.Refusals.{refused_spelt}
use Rattle.matching.specs.declared.Event.TheVariants.{Accepted, Replaced, Withdrawn}
use Rattle.matching.specs.Matching.{open_of}
use Rattle.matching.specs.Held.{Ready}
use Rattle.table.specs.Places.{table_bytes}
use Rattle.table.specs.Heading.{next_of, instrument_of, is_listed}
use Rattle.table.specs.Orders.{order_at, book_of, record_for, accepted, replaced, withdrawn}
use Rattle.table.specs.Market.{is_printable}
use Rattle.table.specs.Facts.{Due}
use Rattle.table.proofs.Frames.{market_formed}
use Rattle.report.specs.declared.Place.{Place}
use Rattle.rows.specs.declared.Unchanged.{Unchanged}
use Rattle.ticket.specs.Legible.{Placed, is_among, Headed, Legible, LegibleRefused, LegibleUnchanged, Holder, LegibleFaulty}
use Rattle.ticket.specs.Tickets.{unchanged_on}
use Rattle.ticket.proofs.Formed.{formed_headed}
use Rattle.ticket.proofs.Taking.{sent_text, sent_placed, new_legible, replaced_legible, withdrawn_legible, market_holder, unchanged_legible}
use Rattle.std.specs.Prelude.{Result, Ok, Err}
use Rattle.calls.specs.declared.OrderReason.{OrderReason}
use Rattle.calls.specs.declared.OrderReason.TheVariants.{NoRecord, OtherCode, IdInUse, Stranger}
use Rattle.calls.specs.declared.ChangeReason.{ChangeReason}
use Rattle.calls.specs.declared.ChangeReason.TheVariants.{NothingOpen, NoSuchOrder, Unfit}
use Rattle.calls.specs.Checks.{text_of, holder, order_number, change_number, new_stands, cancel_stands, replace_stands}
use Rattle.calls.specs.Submit.{sent_at, no_text, cause_of, marks_of, new_order_of}
use Rattle.intake.specs.declared.rejects.Change.{Change}
use Rattle.intake.specs.Intake.{Asking, Unmet}
use Rattle.intake.proofs.Standing.{between_printable, between_symbols, holder_few, side_is, new_named, new_account, new_account_short, new_quoted, new_marked, new_enters, new_time, cancel_in, cancel_at, cancel_named, replace_in, replace_named, replace_quoted, replace_renews}

-- ---- texts of the message

pub spelt_placed : (message t : List ℕ) (p : Part) (low high : ℕ) → Spelt message p low high 32 126 → Placed is_printable low high message t (sent_at p)
spelt_placed message t p low high s =
    sent_placed message t p.start p.len is_printable low high s.some (omega (arith, s.long, s.short)) (between_printable _ s.bytes)

-- the heading of a report of such a market, caused by a message with this 52
pub asking_headed : (t message : List ℕ) (x : Asked) (time : Part) → Asking t message x → is_time (text_of message time) ≡ true
    → Headed t message (next_of t) (sent_at time)
asking_headed t message x time a h =
    formed_headed t (market_formed t a.market) message (next_of t) (sent_at time) a.market.next_low (omega (arith, a.numbers))
    (rw (sent_text message t time.start time.len) h)

-- ---- a new order

-- every reason has a number that 103 can have
pub new_reason : (r : OrderReason) → is_among (0 ∷ 1 ∷ 6 ∷ 99 ∷ []) (order_number r) ≡ true
new_reason NoRecord = refl
new_reason OtherCode = refl
new_reason IdInUse = refl
new_reason Stranger = refl

module _ (t message : List ℕ) (o : NewOrder) (a : Asking t message (Enters o)) where
  -- taken: on the table with its record
  pub enter_legible : new_stands t message o ≡ Ok tt
      → Legible
      (accepted t (record_for t) (next_of t) (text_of message o.id) (text_of message o.account) (marks_of o) (new_order_of t message o))
      message (next_of t) (cause_of o.time no_text) (Accepted (record_for t) (new_order_of t message o))
  enter_legible s =
      new_legible t message (record_for t) (text_of message o.id) (text_of message o.account) (marks_of o) (new_order_of t message o)
      (cause_of o.time no_text) a.market a.idle (new_named t message o a s) (new_account_short t message o a) (new_account t message o a)
      (new_marked t message o a) (new_quoted t message o a) (new_enters t message o a s)
      (rw (sent_text message _ o.time.start o.time.len) (new_time t message o a))

  -- rejected
  pub refused_legible : (reason : OrderReason) → new_stands t message o ≡ Err reason
      → LegibleRefused t message (next_of t) (sent_at o.time)
      (record { id = sent_at o.id; quantity = o.terms.quantity; side = o.terms.side; code = sent_at o.code; reason = order_number reason })
  unfolding one_of
  refused_legible reason e =
      let w = enters_spelt _ _ _ message o a.asks in
      let r = enters_right _ _ _ message o a.asks in
      record {
        heading = asking_headed t message (Enters o) o.time a w.time.right;
        cl_ord_id = spelt_placed message t o.id 1 32 w.id;
        code = sent_placed message t o.code.start o.code.len _ 1 9 w.code.some (omega (arith, w.code.long, w.code.short)) (between_symbols (instrument_of t) _ w.code.bytes);
        quantity = r.sized.quantity_high;
        side = side_is (instrument_of t) o.terms.side r.sized.side_is;
        reason = new_reason reason;
      }

  pub refused_told : (reason : OrderReason) → new_stands t message o ≡ Err reason → (number : ℕ) → number ≡ order_number reason → (n : ℕ) → n ≡ next_of t → (id code time : Place) → id ≡ sent_at o.id
      → code ≡ sent_at o.code → time ≡ sent_at o.time
      → LegibleRefused t message n time (record { id = id; quantity = o.terms.quantity; side = o.terms.side; code = code; reason = number })
  refused_told reason e number z n q id code time i c h = rw (q, i, c, h, z) (refused_legible reason e)

-- ---- a change

-- every reason has a number that 102 can have
pub change_reason : (r : ChangeReason) → is_among (0 ∷ 1 ∷ 2 ∷ []) (change_number r) ≡ true
change_reason NothingOpen = refl
change_reason NoSuchOrder = refl
change_reason Unfit = refl

-- a cancel
module _ (t message : List ℕ) (o : Cancellation) (a : Asking t message (Cancels o)) (k : ℕ) (q : k ≡ holder t (text_of message o.original)) where
  pub cancel_unmet : Unmet t message (record { time = o.time; id = o.id; original = o.original; holder = k; response = 1 })
  cancel_unmet =
      let w = cancels_spelt _ _ _ message o a.asks in
      record {
        market = a.market;
        numbers = a.numbers;
        few = omega (arith, holder_few t (text_of message o.original));
        stamped = w.time.right;
        cl_ord_id = spelt_placed message t o.id 1 32 w.id;
        orig = spelt_placed message t o.original 1 32 w.original;
        response_in = refl;
      }

  module _ (s : cancel_stands t message o ≡ Ok tt) where
    pub cancel_ready : Ready (book_of t) (Withdrawn k (open_of (order_at t k)))
    cancel_ready =
        let i = cancel_in t message o a k q s in
        record {
          inside = i;
          sound = a.market.held.sound k i;
          may = record { enough = omega (arith, ap open_of (cancel_at t message o a k q s)); priced = lit≤ tt };
        }

    pub cancel_due : Due t k (Withdrawn k (open_of (order_at t k)))
    cancel_due = record { long = a.market.long; whose = refl; ready = cancel_ready }

    pub cancel_legible : Legible (withdrawn t (text_of message o.id) (Withdrawn k (open_of (order_at t k)))) message (next_of t)
        (cause_of o.time (sent_at o.original)) (Withdrawn k (open_of (order_at t k)))
    cancel_legible =
        let w = cancels_spelt _ _ _ message o a.asks in
        withdrawn_legible t message (text_of message o.id) k (cause_of o.time (sent_at o.original)) a.market a.idle
        (cancel_in t message o a k q s) (cancel_named t message o a k q s) a.numbers
        (rw (sent_text message _ o.time.start o.time.len) w.time.right) (spelt_placed message _ o.original 1 32 w.original)

-- a replacement
module _ (t message : List ℕ) (o : Replacement) (a : Asking t message (Replaces o)) (k : ℕ) (q : k ≡ holder t (text_of message o.original)) where
  pub replace_unmet : Unmet t message (record { time = o.time; id = o.id; original = o.original; holder = k; response = 2 })
  replace_unmet =
      let w = replaces_spelt _ _ _ message o a.asks in
      record {
        market = a.market;
        numbers = a.numbers;
        few = omega (arith, holder_few t (text_of message o.original));
        stamped = w.time.right;
        cl_ord_id = spelt_placed message t o.id 1 32 w.id;
        orig = spelt_placed message t o.original 1 32 w.original;
        response_in = refl;
      }

  module _ (s : replace_stands t message o ≡ Ok tt) where
    pub replace_ready : Ready (book_of t) (Replaced k o.level o.quantity (next_of t))
    replace_ready =
        let i = replace_in t message o a k q s in
        record { inside = i; sound = a.market.held.sound k i; may = record { enough = omega arith; priced = lit≤ tt } }

    pub replace_due : Due t k (Replaced k o.level o.quantity (next_of t))
    replace_due = record { long = a.market.long; whose = refl; ready = replace_ready }

    pub replace_legible : Legible (replaced t (text_of message o.id) (Replaced k o.level o.quantity (next_of t))) message (next_of t)
        (cause_of o.time (sent_at o.original)) (Replaced k o.level o.quantity (next_of t))
    replace_legible =
        let w = replaces_spelt _ _ _ message o a.asks in
        replaced_legible t message (text_of message o.id) k (cause_of o.time (sent_at o.original)) a.market a.idle
        (replace_in t message o a k q s) (replace_named t message o a k q s) o.level o.quantity (next_of t) (replace_renews t message o a k q s) (replace_quoted t message o a)
        (rw (sent_text message _ o.time.start o.time.len) w.time.right) (spelt_placed message _ o.original 1 32 w.original)

-- either, rejected
module _ (t message : List ℕ) (x : Change) (u : Unmet t message x) where
  pub unmet_holder : Holder t x.holder
  unmet_holder = market_holder t x.holder u.market u.few

  pub unmet_long : length t ≡ table_bytes
  unmet_long = u.market.long

  pub unmet_legible : (reason : ChangeReason)
      → LegibleUnchanged t message (next_of t) (sent_at x.time) (unchanged_on t x.holder (sent_at x.id) (sent_at x.original) (change_number reason) x.response)
  unmet_legible reason =
      unchanged_legible t message (next_of t) (sent_at x.time) x.holder (sent_at x.id) (sent_at x.original) (change_number reason) x.response
      (formed_headed t (market_formed t u.market) message (next_of t) (sent_at x.time) u.market.next_low (omega (arith, u.numbers))
      (rw (sent_text message t x.time.start x.time.len) u.stamped))
      unmet_holder u.cl_ord_id u.orig (change_reason reason) u.response_in

  pub unmet_told : (reason : ChangeReason) (n : ℕ) → n ≡ next_of t → (when new orig : Place) → when ≡ sent_at x.time → new ≡ sent_at x.id → orig ≡ sent_at x.original → (number : ℕ) → number ≡ change_number reason → (said : Unchanged)
      → said ≡ unchanged_on t x.holder new orig number x.response → LegibleUnchanged t message n when said
  unmet_told reason n q when new orig a b c number z said d = rw (d, q, a, b, c, z) (unmet_legible reason)

-- ---- a message with a fault

pub fault_legible : (t message : List ℕ) (r : Refusal) → Asking t message (Refused r)
    → LegibleFaulty t message (next_of t) (sent_at r.time) (record { sequence = r.number; tag = r.tag; kind = sent_at r.kind; reason = r.reason })
unfolding one_of
fault_legible t message r a =
    let w = refused_spelt _ _ _ message r a.asks in
    record {
      heading = asking_headed t message (Refused r) r.time a w.time.right;
      sequence_low = w.number_low;
      sequence_high = w.number_high;
      tag_low = w.tag_low;
      tag_high = omega (arith, w.tag_high);
      kind = spelt_placed message t r.kind 1 2 w.kind;
      reason = w.reason_is;
    }

pub fault_told : (t message : List ℕ) (r : Refusal) → Asking t message (Refused r) → (n : ℕ) → n ≡ next_of t → (kind time : Place) → kind ≡ sent_at r.kind
    → time ≡ sent_at r.time → LegibleFaulty t message n time (record { sequence = r.number; tag = r.tag; kind = kind; reason = r.reason })
fault_told t message r a n q kind time i h = rw (q, i, h) (fault_legible t message r a)
