-- How long the texts of the samples can be, and their rows.
use Prim.Native.Nat.{ℕ, ◌≤◌}
use mathlib.Core.Path.{◌≡◌}
use lib.ListN.{length}
use Rattle.report.specs.declared.Field.{Field}
use Rattle.report.specs.Fields.{row_bytes}
use Rattle.rows.specs.Rows.{padded}
use Rattle.rows.proofs.Bounds.{padded_short}
use Rattle.trials.specs.Fine.{RowFine}
use mathlib.Core.Bool.{true, false}
use mathlib.Core.List.{List}
use Rattle.report.specs.declared.Value.TheVariants.{Sent, Stored}
use Rattle.rows.specs.Rows.{text}
use Rattle.rows.specs.Ranges.{Short}
use Rattle.rows.proofs.Widths.{text_short}

pub stored : (m t : List ℕ) (from len k : ℕ) → len ≤ k → Short m t k (Stored from len)
unfolding text
stored m t from len k h = text_short m t (record { sent = false; start = from; length = len }) k h

pub sent : (m t : List ℕ) (from len k : ℕ) → len ≤ k → Short m t k (Sent from len)
unfolding text
sent m t from len k h = text_short m t (record { sent = true; start = from; length = len }) k h

pub fine_row : (row r : List Field) → row ≡ padded r → ((m t : List ℕ) → length (row_bytes m t r) ≤ 489) → RowFine row
fine_row row r e h = record { row_in = λ m t. rw e (padded_short m t r (h m t)) }

pub fine_short : {row : List Field} → RowFine row → (m t : List ℕ) → length (row_bytes m t row) ≤ 489
fine_short f m t = f.row_in m t
