-- The fields of a row as they are read from its report: 36, those behind the row having no value, each text given by its place in
-- the report (`moved` and `backs` of report/proofs/Back.antt), where the body begins behind 8 and 9. Assumes nothing.
use Rattle.std.specs.Prelude.{ℕ, List}
use Rattle.report.specs.declared.Field.{Field}
use Rattle.report.specs.Fields.{row_bytes}
use Rattle.report.proofs.Back.{backs, start}
use Rattle.rows.specs.Rows.{padded}

-- a row of texts from sent and stored
abbrev pub as_read : List ℕ → List ℕ → List Field → List Field
as_read sent stored fs = backs sent stored (start (row_bytes sent stored fs)) (padded fs)
