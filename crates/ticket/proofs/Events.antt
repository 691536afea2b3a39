-- The report of each event, from what the heading, the record and the cause give: what every arm of the choice by event comes to,
-- and that the execution report that is written is the event's row.
use Prim.Native.Nat.{ℕ, ◌<◌}
use mathlib.Core.Path.{◌≡◌}
use mathlib.Core.List.{List}
use lib.ListN.{length}
use Rattle.matching.specs.declared.Order.{Order}
use Rattle.matching.specs.declared.Event.{Event}
use Rattle.matching.specs.declared.Event.TheVariants.{Accepted, Replaced, Withdrawn, Canceled, Decremented, Traded, Killed, Expired}
use Rattle.matching.specs.Matching.{who}
use Rattle.matching.specs.Held.{Sound}
use Rattle.table.specs.Places.{table_bytes}
use Rattle.report.specs.declared.Place.{Place}
use Rattle.report.specs.Fields.{row_bytes}
use Rattle.rows.specs.declared.Shown.{Shown}
use Rattle.rows.specs.declared.Ground.{Ground}
use Rattle.rows.specs.declared.Fill.{Fill}
use Rattle.rows.specs.declared.Told.{Told}
use Rattle.rows.specs.Rows.{text, requested, prevented, decremented, expired}
use Rattle.rows.specs.Parts.{execution_fields, accepted_told, replaced_told, canceled_told, traded_told}
use Rattle.rows.proofs.Executions.{accepted_same, replaced_same, canceled_same, traded_same}
use Rattle.ticket.specs.declared.Cause.{Cause}
use Rattle.ticket.specs.Tickets.{stamp_on, shown_on, fill_on, row_of, Ready}
use Rattle.ticket.specs.Telling.{told_of}

module _ (t : List ℕ) (n : ℕ) (k : Place) (e : Event) (i : ℕ) (o : Shown) where
  -- the order is sound
  pub shown_sound : Ready t n e → o ≡ shown_on t (who e) → Sound o.order
  unfolding shown_on
  shown_sound r eo = rw eo r.order_sound

  -- both orders of a trade are records
  pub fill_ready : {j m q l : ℕ} → Ready t n e → e ≡ Traded j m q l → (length t ≡ table_bytes) × (m < 256) × (0 < n)
  fill_ready r h = (r.long, rw h at r.other_in, r.number_in)

  module _ (eo : o ≡ shown_on t (who e)) where
    pub accepted_told_lem : {j : ℕ} {x : Order} (r : Told) → e ≡ Accepted j x → r ≡ accepted_told → r ≡ told_of t n k e
    unfolding told_of
    accepted_told_lem r h er = rw (er, h)

    pub replaced_told_lem : {j l q p : ℕ} (w : Ground) (r : Told) → e ≡ Replaced j l q p → w ≡ requested (text k) → r ≡ replaced_told o w → r ≡ told_of t n k e
    unfolding told_of
    replaced_told_lem w r h ew er = rw (er, ew, eo, h)

    pub withdrawn_told : {j q : ℕ} (w : Ground) (r : Told) → e ≡ Withdrawn j q → w ≡ requested (text k) → r ≡ canceled_told w → r ≡ told_of t n k e
    unfolding told_of
    withdrawn_told w r h ew er = rw (er, ew, h)

    pub canceled_told_lem : {j q : ℕ} (w : Ground) (r : Told) → e ≡ Canceled j q → w ≡ prevented → r ≡ canceled_told w → r ≡ told_of t n k e
    unfolding told_of
    canceled_told_lem w r h ew er = rw (er, ew, h)

    pub decremented_told : {j q : ℕ} (w : Ground) (r : Told) → e ≡ Decremented j q → w ≡ decremented o → r ≡ replaced_told o w → r ≡ told_of t n k e
    unfolding told_of
    decremented_told w r h ew er = rw (er, ew, eo, h)

    pub traded_told_lem : {j m q l : ℕ} (f : Fill) (r : Told) → e ≡ Traded j m q l → i ≡ who e → f ≡ fill_on t n i m q l → r ≡ traded_told o f → r ≡ told_of t n k e
    unfolding told_of
    traded_told_lem f r h ei ef er = rw (er, ef, ei, eo, h)

    pub killed_told : {j q : ℕ} (w : Ground) (r : Told) → e ≡ Killed j q → w ≡ expired → r ≡ canceled_told w → r ≡ told_of t n k e
    unfolding told_of
    killed_told w r h ew er = rw (er, ew, h)

    pub expired_told : {j q : ℕ} (w : Ground) (r : Told) → e ≡ Expired j q → w ≡ expired → r ≡ canceled_told w → r ≡ told_of t n k e
    unfolding told_of
    expired_told w r h ew er = rw (er, ew, h)

-- the bytes of what is written are those of the event's row
pub event_same : (message t : List ℕ) (n : ℕ) (c : Cause) (e : Event)
    → row_bytes message t (execution_fields (stamp_on t n c.time) (shown_on t (who e)) (told_of t n c.orig e)) ≡ row_bytes message t (row_of t n c e)
unfolding told_of row_of
event_same message t n c (Accepted i o) = accepted_same message t _ _
event_same message t n c (Replaced i l q p) = replaced_same message t _ _ _
event_same message t n c (Withdrawn i q) = canceled_same message t _ _ _
event_same message t n c (Canceled i q) = canceled_same message t _ _ _
event_same message t n c (Decremented i q) = replaced_same message t _ _ _
event_same message t n c (Traded i m q l) = traded_same message t _ _ _
event_same message t n c (Killed i q) = canceled_same message t _ _ _
event_same message t n c (Expired i q) = canceled_same message t _ _ _
