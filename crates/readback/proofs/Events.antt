-- The report of every event, and of everything that is refused, is read as what it tells (document 01, "The reports"): its kind, the
-- fields of its row, and the numbers of the order after the event. Any table and message that give the report its parts in range.
use Prim.Native.Nat.{ℕ}
use mathlib.Core.Path.{◌≡◌, refl, ap, ◌∙◌}
use mathlib.Core.Bool.{false, ◌||◌}
use lib.Dec.{eqb}
use mathlib.Core.List.{List}
use Rattle.matching.specs.declared.Event.{Event}
use Rattle.matching.specs.declared.Event.TheVariants.{Accepted, Replaced, Withdrawn, Canceled, Decremented, Traded, Killed, Expired}
use Rattle.matching.specs.Matching.{who}
use Rattle.table.specs.Heading.{instrument_of}
use Rattle.table.specs.Orders.{classification_at}
use Rattle.report.specs.declared.Place.{Place}
use Rattle.report.specs.declared.Kind.TheVariants as kind
use Rattle.report.specs.declared.Reading.{Reading}
use Rattle.report.specs.Reports.{read_of}
use Rattle.rows.specs.declared.Refused.{Refused}
use Rattle.rows.specs.declared.Unchanged.{Unchanged}
use Rattle.rows.specs.declared.Faulty.{Faulty}
use Rattle.rows.specs.Rows.{text, digit, requested, prevented, decremented, expired, header, figures_of, accepted_fields, replaced_fields, canceled_fields, trade_fields}
use Rattle.ticket.specs.declared.Cause.{Cause}
use Rattle.ticket.specs.Tickets.{stamp_on, shown_on, fill_on, row_of, ticket_of, refused_row, unchanged_row, faulty_row}
use Rattle.ticket.specs.Legible.{Legible, LegibleRefused, LegibleUnchanged, LegibleFaulty}
use Rattle.readback.specs.AsRead.{as_read}
use Rattle.readback.specs.Right.{StampRight, ShownRight, replaced_on_request, by_decrement, canceled_on_request, by_prevention, at_the_end}
use Rattle.readback.specs.Says.{says_in, says, SaysOrder}
use Rattle.readback.specs.Told.{kind_told, reason_told, quantity_told, other_told, liquidity_told, pair_told, SaysEvent}
use Rattle.readback.proofs.Said.{row_says, Ends, ends_none, deal_378, deal_375, deal_851, deal_880, accepted_said, replaced_said, canceled_said, trade_said}
use Rattle.readback.proofs.Theorems.{Reads, accepted_is_read, replaced_is_read, canceled_is_read, trade_is_read, rejected_is_read, cancel_reject_is_read, session_reject_is_read}
use Rattle.readback.proofs.Legibly.{stamp_right, shown_right, fill_right, requested_right, refused_right, unchanged_right, faulty_right}

module _ (t message : List ℕ) (n : ℕ) where
  row_is_read : (c : Cause) (e : Event) → Legible t message n c e → Reads message t (instrument_of t) (kind_told e) (row_of t n c e)
  unfolding row_of stamp_on
  row_is_read c e h = by e (stamp_right t message n c.time h.heading) (shown_right t message (who e) h.heading.long h.order) h
    where
      by : (e : Event) → StampRight message t (stamp_on t n c.time) → ShownRight message t (instrument_of t) (shown_on t (who e)) → Legible t message n c e
          → Reads message t (instrument_of t) (kind_told e) (row_of t n c e)
      by (Accepted i o) s j h = accepted_is_read message t _ _ s j
      by (Replaced i l q p) s j h = replaced_is_read message t _ _ _ s j (replaced_on_request (requested_right t message c.orig h.details))
      by (Withdrawn i q) s j h = canceled_is_read message t _ _ _ s j (canceled_on_request (requested_right t message c.orig h.details))
      by (Canceled i q) s j h = canceled_is_read message t _ _ _ s j by_prevention
      by (Decremented i q) s j h = replaced_is_read message t _ _ _ s j by_decrement
      by (Traded i m q l) s j h =
          trade_is_read message t _ _ _ s j (fill_right t message n i m q l h.heading.number_low h.heading.number_high h.details)
      by (Killed i q) s j h = canceled_is_read message t _ _ _ s j at_the_end
      by (Expired i q) s j h = canceled_is_read message t _ _ _ s j at_the_end

  -- the report of an event is read: its kind and the fields of its row
  pub event_is_read : (c : Cause) (e : Event) → Legible t message n c e
      → read_of (instrument_of t) (ticket_of t message n c e) ≡ record { kind = kind_told e; fields = as_read message t (row_of t n c e) }
  unfolding ticket_of
  event_is_read c e h = row_is_read c e h

  -- ---- what its numbers say
  module _ (c : Cause) (r : Reading) where
    told : (e : Event) → r.kind ≡ kind_told e → SaysOrder r (stamp_on t n c.time) (shown_on t (who e)) → says 378 r ≡ reason_told e → says 32 r ≡ quantity_told e
        → says 375 r ≡ other_told t e → says 851 r ≡ liquidity_told t e → says 880 r ≡ pair_told t n e → SaysEvent t n e r
    unfolding stamp_on shown_on
    told e k o a b d f g =
        record {
          is_kind = k;
          says_34 = o.says_34;
          says_17 = o.says_17;
          says_37 = o.says_37;
          says_38 = o.says_38;
          says_14 = o.says_14;
          says_151 = o.says_151;
          says_54 = o.says_54;
          says_59 = o.says_59;
          says_109 = o.says_109;
          says_110 = o.says_110;
          says_544 = o.says_544;
          says_8214 = o.says_8214;
          says_378 = a;
          says_32 = b;
          says_375 = d;
          says_851 = f;
          says_880 = g;
        }

    -- the end of a row that is no Trade's says none of these
    silent : (i tag : ℕ) → (eqb 0 tag || eqb 423 tag || eqb 544 tag || eqb 8060 tag || eqb 8214 tag) ≡ false
        → says_in tag (Ends (instrument_of t) (shown_on t i) (digit (classification_at t i))) ≡ 0
    silent i tag h = ends_none (instrument_of t) (shown_on t i) (digit (classification_at t i)) tag h

    said : (e : Event) → ShownRight message t (instrument_of t) (shown_on t (who e)) → r.kind ≡ kind_told e → ((tag : ℕ) → says tag r ≡ says_in tag (row_of t n c e)) → SaysEvent t n e r
    unfolding row_of stamp_on shown_on accepted_fields replaced_fields canceled_fields trade_fields header figures_of
    said (Accepted i o) j k s =
        let z = silent i in
        told (Accepted i o) k (accepted_said r _ _ j.order_right j.cash_right s) (s 378 ∙ z 378 refl) (s 32 ∙ z 32 refl) (s 375 ∙ z 375 refl) (s 851 ∙ z 851 refl) (s 880 ∙ z 880 refl)
    said (Replaced i l q p) j k s =
        let z = silent i in
        told (Replaced i l q p) k (replaced_said r _ _ j.order_right j.cash_right (requested (text c.orig)) s) (s 378) (s 32 ∙ z 32 refl) (s 375 ∙ z 375 refl) (s 851 ∙ z 851 refl) (s 880 ∙ z 880 refl)
    said (Withdrawn i q) j k s =
        let z = silent i in
        told (Withdrawn i q) k (canceled_said r _ _ j.order_right j.cash_right (requested (text c.orig)) s) (s 378) (s 32 ∙ z 32 refl) (s 375 ∙ z 375 refl) (s 851 ∙ z 851 refl) (s 880 ∙ z 880 refl)
    said (Canceled i q) j k s =
        let z = silent i in
        told (Canceled i q) k (canceled_said r _ _ j.order_right j.cash_right prevented s) (s 378) (s 32 ∙ z 32 refl) (s 375 ∙ z 375 refl) (s 851 ∙ z 851 refl) (s 880 ∙ z 880 refl)
    said (Decremented i q) j k s =
        let z = silent i in
        told (Decremented i q) k (replaced_said r _ _ j.order_right j.cash_right (decremented (shown_on t i)) s) (s 378) (s 32 ∙ z 32 refl) (s 375 ∙ z 375 refl) (s 851 ∙ z 851 refl) (s 880 ∙ z 880 refl)
    said (Traded i m q l) j k s =
        let f = fill_on t n i m q l in
        let x = digit (classification_at t i) in
        told (Traded i m q l) k (trade_said r _ _ j.order_right j.cash_right f s) (s 378 ∙ deal_378 (instrument_of t) (shown_on t i) f x) (s 32)
        (s 375 ∙ deal_375 (instrument_of t) (shown_on t i) f x) (s 851 ∙ deal_851 (instrument_of t) (shown_on t i) f x)
        (s 880 ∙ deal_880 (instrument_of t) (shown_on t i) f x)
    said (Killed i q) j k s =
        let z = silent i in
        told (Killed i q) k (canceled_said r _ _ j.order_right j.cash_right expired s) (s 378) (s 32 ∙ z 32 refl) (s 375 ∙ z 375 refl) (s 851 ∙ z 851 refl) (s 880 ∙ z 880 refl)
    said (Expired i q) j k s =
        let z = silent i in
        told (Expired i q) k (canceled_said r _ _ j.order_right j.cash_right expired s) (s 378) (s 32 ∙ z 32 refl) (s 375 ∙ z 375 refl) (s 851 ∙ z 851 refl) (s 880 ∙ z 880 refl)

  pub event_says : (c : Cause) (e : Event) → Legible t message n c e → SaysEvent t n e (read_of (instrument_of t) (ticket_of t message n c e))
  event_says c e h =
      let r = read_of (instrument_of t) (ticket_of t message n c e) in
      let q = event_is_read c e h in
      said c r e (shown_right t message (who e) h.heading.long h.order) (ap (λ (x : Reading). x.kind) q)
      (row_says message t (kind_told e) (row_of t n c e) r q)

  -- ---- the reports of what is refused
  pub refused_is_read : (time : Place) (r : Refused) → LegibleRefused t message n time r → Reads message t (instrument_of t) kind.Rejected (refused_row t n time r)
  unfolding refused_row stamp_on
  refused_is_read time r h = rejected_is_read message t _ r (stamp_right t message n time h.heading) (refused_right t message n time r h)

  pub unchanged_is_read : (time : Place) (u : Unchanged) → LegibleUnchanged t message n time u → Reads message t (instrument_of t) kind.CancelReject (unchanged_row t n time u)
  unfolding unchanged_row stamp_on
  unchanged_is_read time u h = cancel_reject_is_read message t _ u (stamp_right t message n time h.heading) (unchanged_right t message n time u h)

  pub faulty_is_read : (time : Place) (f : Faulty) → LegibleFaulty t message n time f → Reads message t (instrument_of t) kind.SessionReject (faulty_row t n time f)
  unfolding faulty_row stamp_on
  faulty_is_read time f h = session_reject_is_read message t _ f (stamp_right t message n time h.heading) (faulty_right t message n time f h)
