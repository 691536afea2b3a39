-- What makes the report of each event the kind it is, as the writer of execution reports takes it. Nothing here need be believed:
-- proofs/Events shows that the bytes are those of the event's row.
use Rattle.std.specs.Prelude.{ℕ, List}
use Rattle.matching.specs.declared.Event.{Event}
use Rattle.matching.specs.declared.Event.TheVariants.{Accepted, Replaced, Withdrawn, Canceled, Decremented, Traded, Killed, Expired}
use Rattle.report.specs.declared.Place.{Place}
use Rattle.rows.specs.declared.Told.{Told}
use Rattle.rows.specs.Rows.{text, requested, prevented, decremented, expired}
use Rattle.rows.specs.Parts.{accepted_told, replaced_told, canceled_told, traded_told}
use Rattle.ticket.specs.Tickets.{shown_on, fill_on}

unfoldable pub told_of : List ℕ → ℕ → Place → Event → Told
told_of t n orig (Accepted i o) = accepted_told
told_of t n orig (Replaced i l q p) = replaced_told (shown_on t i) (requested (text orig))
told_of t n orig (Withdrawn i q) = canceled_told (requested (text orig))
told_of t n orig (Canceled i q) = canceled_told prevented
told_of t n orig (Decremented i q) = replaced_told (shown_on t i) (decremented (shown_on t i))
told_of t n orig (Traded i m q l) = traded_told (shown_on t i) (fill_on t n i m q l)
told_of t n orig (Killed i q) = canceled_told expired
told_of t n orig (Expired i q) = canceled_told expired
