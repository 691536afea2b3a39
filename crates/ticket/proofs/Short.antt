-- A report that is written from what is in range is short: its row at most 489 bytes, which is what the writer of a whole report asks
-- for, and the whole at most 512. First what the parts of a row come to.
use Prim.Native.Nat.{ℕ, ◌≤◌, ◌<◌, zero-le}
use native.Mathlib.Omega.{arith}
use mathlib.Core.Bool.{Bool, true, false≢true}
use mathlib.Core.Path.{◌≡◌}
use mathlib.Core.List.{List, [], ◌∷◌}
use lib.Dec.{eqb, lit<}
use lib.ListN.{length, get_or}
use borrow.Author.Tests.{eqb-true}
use Rattle.octets.specs.Octets.{text_at}
use Rattle.octets.proofs.Bools.{split}
use Rattle.decimal.proofs.Times.{time_short}
use Rattle.matching.specs.declared.Event.{Event}
use Rattle.matching.specs.declared.Event.TheVariants.{Accepted, Replaced, Withdrawn, Canceled, Decremented, Traded, Killed, Expired}
use Rattle.table.specs.Heading.{work_of, instrument_of}
use Rattle.table.specs.Market.{is_printable}
use Rattle.report.specs.declared.Place.{Place}
use Rattle.report.specs.Fields.{row_bytes}
use Rattle.rows.specs.declared.Refused.{Refused}
use Rattle.rows.specs.declared.Unchanged.{Unchanged}
use Rattle.rows.specs.declared.Faulty.{Faulty}
use Rattle.rows.specs.Rows.{text, requested, prevented, decremented, expired}
use Rattle.rows.specs.Ranges.{Short, StampIn, ShownIn, GroundIn, FillIn}
use Rattle.rows.proofs.Widths.{◌&◌, text_short, number_short}
use Rattle.rows.proofs.Bounds.{accepted_short, replaced_short, canceled_short, trade_short, rejected_short, cancel_reject_short, session_reject_short, report_short}
use Rattle.ticket.specs.declared.Cause.{Cause}
use Rattle.ticket.specs.Tickets.{stored_at, or_stored_at, stamp_on, shown_on, fill_on, row_of, Ready, other_of, ticket_of, refused_row, unchanged_row, faulty_row}
use Rattle.ticket.specs.Legible.{Spelt, Placed, is_among, Headed, Recorded, Dealt, Details, Legible, LegibleRefused, LegibleUnchanged, LegibleFaulty}

-- ---- numbers of a list

-- each is below a number, and so is what is one of them
abbrev AllBelow : List ℕ → ℕ → Type 0
AllBelow [] most = Unit {0}
AllBelow (x ∷ xs) most = (x < most) × AllBelow xs most

pub among_below : (xs : List ℕ) (most n : ℕ) → AllBelow xs most → is_among xs n ≡ true → n < most
among_below [] most n h e = absurd (false≢true e)
among_below (x ∷ xs) most n h e =
    split (eqb n x) (λ y. omega (arith, eqb-true n x y, h.0)) (λ y. among_below xs most n h.1 (rw y at e))

module _ (t message : List ℕ) where
  -- ---- texts

  stored_short : (f : ℕ → Bool) (low high p : ℕ) → Spelt f low high (text_at t p) → Short message t high (stored_at t p)
  unfolding text_at
  stored_short f low high p h = h.most

  or_stored_short : (f : ℕ → Bool) (low high p : ℕ) → Spelt f low high (text_at t p) → Short message t high (or_stored_at t p)
  unfolding text_at or_stored_at
  or_stored_short f low high p h = split (eqb (get_or t p 0) 0) (λ e. rw e zero-le) (λ e. rw e h.most)

  placed_short : (f : ℕ → Bool) (low high : ℕ) (p : Place) → Placed f low high message t p → Short message t high (text p)
  placed_short f low high p h = text_short message t p high h.most

  -- ---- parts

  pub stamp_in : (n : ℕ) (time : Place) → Headed t message n time → StampIn message t (stamp_on t n time)
  unfolding stamp_on
  stamp_in n time h =
      record {
        number_in = h.number_high;
        time_in_lem = time_short _ h.stamped;
        venue_in = stored_short _ 1 8 0 h.venue;
        port_in = stored_short _ 1 8 9 h.port;
      }

  pub shown_in : (i : ℕ) → Recorded t i → ShownIn message t (instrument_of t) (shown_on t i)
  unfolding shown_on
  shown_in i h =
      record {
        orderid_in = h.orderid_high;
        order_in = h.sound;
        quoted_in = h.quoted;
        mpid_in = h.owner;
        code_in = stored_short _ 1 9 18 h.code;
        id_in = stored_short _ 1 32 _ h.cl_ord_id;
        account_in_lem = or_stored_short _ 0 10 _ h.account;
      }

  pub fill_in : (n i other quantity level : ℕ) → n < 1000000000 → Dealt t n i other quantity level → FillIn (instrument_of t) (fill_on t n i other quantity level)
  fill_in n i other quantity level m h =
      record {
        quantity_in = h.quantity_high;
        level_low = h.level_low;
        level_high = h.level_high;
        other_in = h.other_owner;
        first_in = split (eqb i (work_of t)) (λ e. rw e (omega (arith, m))) (λ e. rw e m);
        liquidity_in = split (eqb i (work_of t)) (λ e. rw e (lit< tt)) (λ e. rw e (lit< tt));
      }

  requested_in : (p : Place) → Placed is_printable 1 32 message t p → GroundIn message t (requested (text p))
  requested_in p h = record { orig_in = placed_short _ 1 32 p h; reason_in = zero-le }

  prevented_in : GroundIn message t prevented
  prevented_in = record { orig_in = zero-le; reason_in = number_short message t 2 100 (lit< tt) }

  decremented_in : (i : ℕ) → Recorded t i → GroundIn message t (decremented (shown_on t i))
  decremented_in i h = record { orig_in = (shown_in i h).id_in; reason_in = number_short message t 2 100 (lit< tt) }

  expired_in : GroundIn message t expired
  expired_in = record { orig_in = zero-le; reason_in = number_short message t 2 99 (lit< tt) }

  -- ---- the report of an event

  pub event_short : (n : ℕ) (c : Cause) (e : Event) → Legible t message n c e → length (row_bytes message t (row_of t n c e)) ≤ 489
  unfolding row_of stamp_on
  event_short n c (Accepted i o) h = accepted_short message t _ _ (stamp_in n c.time h.heading) (shown_in i h.order)
  event_short n c (Replaced i l q p) h =
      replaced_short message t _ _ _ (stamp_in n c.time h.heading) (shown_in i h.order) (requested_in c.orig h.details)
  event_short n c (Withdrawn i q) h =
      canceled_short message t _ _ _ (stamp_in n c.time h.heading) (shown_in i h.order) (requested_in c.orig h.details)
  event_short n c (Canceled i q) h = canceled_short message t _ _ _ (stamp_in n c.time h.heading) (shown_in i h.order) prevented_in
  event_short n c (Decremented i q) h =
      replaced_short message t _ _ _ (stamp_in n c.time h.heading) (shown_in i h.order) (decremented_in i h.order)
  event_short n c (Traded i m q l) h =
      trade_short message t _ _ _ (stamp_in n c.time h.heading) (shown_in i h.order) (fill_in n i m q l h.heading.number_high h.details)
  event_short n c (Killed i q) h = canceled_short message t _ _ _ (stamp_in n c.time h.heading) (shown_in i h.order) expired_in
  event_short n c (Expired i q) h = canceled_short message t _ _ _ (stamp_in n c.time h.heading) (shown_in i h.order) expired_in

  pub ticket_short : (n : ℕ) (c : Cause) (e : Event) → Legible t message n c e → length (ticket_of t message n c e) ≤ 512
  unfolding ticket_of
  ticket_short n c e h = report_short message t (row_of t n c e) (event_short n c e h)

  -- it is what the row of the event asks for
  other_below : (n : ℕ) (c : Cause) (e : Event) → Details t message n c e → other_of e < 256
  other_below n c (Accepted i o) h = lit< tt
  other_below n c (Replaced i l q p) h = lit< tt
  other_below n c (Withdrawn i q) h = lit< tt
  other_below n c (Canceled i q) h = lit< tt
  other_below n c (Decremented i q) h = lit< tt
  other_below n c (Traded i m q l) h = h.other_in
  other_below n c (Killed i q) h = lit< tt
  other_below n c (Expired i q) h = lit< tt

  pub legible_ready : (n : ℕ) (c : Cause) (e : Event) → Legible t message n c e → Ready t n e
  legible_ready n c e h =
      record {
        long = h.heading.long;
        order_in = h.order.high;
        order_sound = h.order.sound;
        other_in = other_below n c e h.details;
        number_in = h.heading.number_low;
      }

  -- ---- the reports of what is refused

  pub refused_short : (n : ℕ) (time : Place) (r : Refused) → LegibleRefused t message n time r → length (row_bytes message t (refused_row t n time r)) ≤ 489
  unfolding refused_row
  refused_short n time r h =
      rejected_short message t _ r (stamp_in n time h.heading)
      (record {
        id_in = h.cl_ord_id.most;
        quantity_in = h.quantity;
        code_in = h.code.most;
        reason_in = among_below (0 ∷ 1 ∷ 6 ∷ 99 ∷ []) 100 r.reason (lit< tt & lit< tt & lit< tt & lit< tt & tt) h.reason;
      })

  pub unchanged_short : (n : ℕ) (time : Place) (u : Unchanged) → LegibleUnchanged t message n time u → length (row_bytes message t (unchanged_row t n time u)) ≤ 489
  unfolding unchanged_row
  unchanged_short n time u h =
      cancel_reject_short message t _ u (stamp_in n time h.heading)
      (record {
        id_in = h.cl_ord_id.most;
        orderid_in = h.orderid;
        orig_in = h.orig.most;
        reason_in = among_below (0 ∷ 1 ∷ 2 ∷ []) 10 u.reason (lit< tt & lit< tt & lit< tt & tt) h.reason;
        response_in = among_below (1 ∷ 2 ∷ []) 10 u.response (lit< tt & lit< tt & tt) h.response;
      })

  pub faulty_short : (n : ℕ) (time : Place) (f : Faulty) → LegibleFaulty t message n time f → length (row_bytes message t (faulty_row t n time f)) ≤ 489
  unfolding faulty_row
  faulty_short n time f h =
      session_reject_short message t _ f (stamp_in n time h.heading)
      (record {
        sequence_in = h.sequence_high;
        tag_in = h.tag_high;
        kind_in = h.kind.most;
        reason_in = among_below (1 ∷ 2 ∷ 3 ∷ 4 ∷ 5 ∷ 6 ∷ 9 ∷ 11 ∷ []) 100 f.reason
            (lit< tt & lit< tt & lit< tt & lit< tt & lit< tt & lit< tt & lit< tt & lit< tt & tt) h.reason;
      })
