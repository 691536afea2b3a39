-- Each field that is read has the bytes that were written, also of a row with fields of no value behind it.
use Prim.Native.Nat.{ℕ}
use mathlib.Core.Path.{◌≡◌, subst}
use mathlib.Core.List.{List}
use lib.ListN.{get_or}
use Rattle.report.specs.declared.Value.TheVariants.{Absent}
use Rattle.report.specs.declared.Field.{Field}
use Rattle.report.specs.Fields.{field, value_bytes, row_bytes}
use Rattle.report.specs.Frame.{report_bytes}
use Rattle.report.proofs.Back.{backs, start}
use Rattle.report.proofs.Texts.{read_there}
use Rattle.rows.specs.Rows.{padded}
use Rattle.rows.proofs.Widths.{row_padded}
use Rattle.readback.specs.AsRead.{as_read}

pub report_there : (sent stored other : List ℕ) (fs : List Field) (i : ℕ)
    → value_bytes (report_bytes (row_bytes sent stored fs)) other (get_or (as_read sent stored fs) i (field 0 Absent)).value
    ≡ value_bytes sent stored (get_or (padded fs) i (field 0 Absent)).value
report_there sent stored other fs i =
    subst (λ (b : List ℕ). value_bytes (report_bytes b) other (get_or (backs sent stored (start b) (padded fs)) i (field 0 Absent)).value
    ≡ value_bytes sent stored (get_or (padded fs) i (field 0 Absent)).value) (row_padded sent stored fs) (read_there sent stored other (padded fs) i)
