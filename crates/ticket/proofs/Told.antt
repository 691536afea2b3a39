-- What the writers of reports come to: the row that is handed on has fields of no value behind it, which write nothing.
use Prim.Native.Nat.{ℕ, ◌-◌, ◌≤◌}
use native.Mathlib.Omega.{arith}
use mathlib.Core.Path.{◌≡◌, ap, ◌∙◌}
use mathlib.Core.List.{List}
use lib.ListN.{length}
use Rattle.octets.specs.Octets.{part_at}
use Rattle.octets.specs.Written.{Room, Wrote}
use Rattle.matching.specs.declared.Event.{Event}
use Rattle.matching.specs.Matching.{who}
use Rattle.matching.specs.Held.{Sound}
use Rattle.report.specs.declared.Place.{Place}
use Rattle.report.specs.declared.Field.{Field}
use Rattle.report.specs.Fields.{row_bytes}
use Rattle.report.specs.Frame.{report_bytes}
use Rattle.report.proofs.Writing.{close_low, close_high, close_long, closed}
use Rattle.rows.specs.declared.Stamp.{Stamp}
use Rattle.rows.specs.declared.Shown.{Shown}
use Rattle.rows.specs.declared.Told.{Told}
use Rattle.rows.specs.declared.Refused.{Refused}
use Rattle.rows.specs.declared.Unchanged.{Unchanged}
use Rattle.rows.specs.declared.Faulty.{Faulty}
use Rattle.rows.specs.Parts.{execution_fields}
use Rattle.rows.specs.Rows.{padded, rejected_row, cancel_reject_row, session_reject_row}
use Rattle.rows.proofs.Widths.{row_padded}
use Rattle.rows.proofs.Bounds.{padded_short}
use Rattle.ticket.specs.declared.Cause.{Cause}
use Rattle.ticket.specs.Tickets.{stamp_on, shown_on, row_of, ticket_of, refused_row, unchanged_row, faulty_row}
use Rattle.ticket.specs.Legible.{Legible, LegibleRefused, LegibleUnchanged, LegibleFaulty}
use Rattle.ticket.specs.Telling.{told_of}
use Rattle.ticket.proofs.Events.{event_same}
use Rattle.ticket.proofs.Short.{event_short, refused_short, unchanged_short, faulty_short}

module _ (t message : List ℕ) (full : List Field) where
  -- ---- a row with nothing behind it

  row_short : (row : List Field) → full ≡ padded row → length (row_bytes message t row) ≤ 489 → length (row_bytes message t full) ≤ 489
  row_short row e h = rw e (padded_short message t row h)

  row_told : (row : List Field) (area after : List ℕ) (r : ℕ) → full ≡ padded row
      → Wrote area 0 (report_bytes (row_bytes message t full)) r after → Wrote area 0 (report_bytes (row_bytes message t row)) r after
  row_told row area after r e w = rw (e, row_padded message t row) at w

  -- ---- what is refused

  module _ (n : ℕ) (time : Place) (s : Stamp) (es : s ≡ stamp_on t n time) where
    -- a new order
    module _ (r : Refused) (x : full ≡ padded (rejected_row s r)) where
      refused_is : full ≡ padded (refused_row t n time r)
      unfolding refused_row
      refused_is = x ∙ ap (λ (y : Stamp). padded (rejected_row y r)) es

      pub refused_row_short : LegibleRefused t message n time r → length (row_bytes message t full) ≤ 489
      refused_row_short h = row_short (refused_row t n time r) refused_is (refused_short t message n time r h)

      pub refused_told : (area after : List ℕ) (k : ℕ) → Wrote area 0 (report_bytes (row_bytes message t full)) k after
          → Wrote area 0 (report_bytes (row_bytes message t (refused_row t n time r))) k after
      refused_told area after k w = row_told (refused_row t n time r) area after k refused_is w

    -- a cancel or a replacement
    module _ (u : Unchanged) (x : full ≡ padded (cancel_reject_row s u)) where
      unchanged_is : full ≡ padded (unchanged_row t n time u)
      unfolding unchanged_row
      unchanged_is = x ∙ ap (λ (y : Stamp). padded (cancel_reject_row y u)) es

      pub unchanged_row_short : LegibleUnchanged t message n time u → length (row_bytes message t full) ≤ 489
      unchanged_row_short h = row_short (unchanged_row t n time u) unchanged_is (unchanged_short t message n time u h)

      pub unchanged_told : (area after : List ℕ) (k : ℕ) → Wrote area 0 (report_bytes (row_bytes message t full)) k after
          → Wrote area 0 (report_bytes (row_bytes message t (unchanged_row t n time u))) k after
      unchanged_told area after k w = row_told (unchanged_row t n time u) area after k unchanged_is w

    -- a message with a fault
    module _ (f : Faulty) (x : full ≡ padded (session_reject_row s f)) where
      faulty_is : full ≡ padded (faulty_row t n time f)
      unfolding faulty_row
      faulty_is = x ∙ ap (λ (y : Stamp). padded (session_reject_row y f)) es

      pub faulty_row_short : LegibleFaulty t message n time f → length (row_bytes message t full) ≤ 489
      faulty_row_short h = row_short (faulty_row t n time f) faulty_is (faulty_short t message n time f h)

      pub faulty_told : (area after : List ℕ) (k : ℕ) → Wrote area 0 (report_bytes (row_bytes message t full)) k after
          → Wrote area 0 (report_bytes (row_bytes message t (faulty_row t n time f))) k after
      faulty_told area after k w = row_told (faulty_row t n time f) area after k faulty_is w

-- ---- the report of an event
module _ (t message : List ℕ) (n : ℕ) (c : Cause) (e : Event) (s : Stamp) (i : ℕ) (o : Shown) (v : Told)
    (es : s ≡ stamp_on t n c.time) (ei : i ≡ who e) (eo : o ≡ shown_on t i) (ev : v ≡ told_of t n c.orig e) where
  body_is : row_bytes message t (execution_fields s o v) ≡ row_bytes message t (row_of t n c e)
  body_is = rw (ev, eo, ei, es) (event_same message t n c e)

  module _ (h : Legible t message n c e) where
    body_short : length (row_bytes message t (execution_fields s o v)) ≤ 489
    body_short = rw body_is (event_short t message n c e h)

    pub body_sound : Sound o.order
    unfolding shown_on
    body_sound = rw (eo, ei) h.order.sound

    pub body_room : (area : List ℕ) → 512 ≤ length area → Room area 16 (row_bytes message t (execution_fields s o v))
    body_room area l = record { fits = omega (arith, body_short, l) }

    module _ {area : List ℕ} {end : ℕ} {mid : List ℕ} (w : Wrote area 16 (row_bytes message t (execution_fields s o v)) end mid) (l : 512 ≤ length area) where
      pub body_low : 16 ≤ end
      body_low = close_low body_short l w

      pub body_high : end ≤ 505
      body_high = close_high body_short l w

      pub body_long : 512 ≤ length mid
      body_long = close_long body_short l w

      pub told : {next : ℕ} {after : List ℕ} → Wrote mid 0 (report_bytes (part_at mid 16 (end - 16))) next after → Wrote area 0 (ticket_of t message n c e) next after
      unfolding ticket_of
      told x = rw body_is at (closed body_short l w x)
