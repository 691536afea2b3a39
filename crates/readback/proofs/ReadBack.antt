-- A written row is read back: its kind, and its fields, each text at its place in the report.
use Prim.Native.Nat.{ℕ, ◌≤◌}
use native.Mathlib.Omega.{arith}
use mathlib.Core.Path.{◌≡◌, refl, ap, ◌∙◌, subst}
use mathlib.Core.Bool.{true}
use mathlib.Core.List.{List, [], ◌∷◌}
use lib.ListN.{length, get_or}
use Rattle.decimal.specs.declared.Instrument.{Instrument}
use Rattle.decimal.specs.Writing.{decimal}
use Rattle.report.specs.declared.Value.TheVariants.{Absent, Char}
use Rattle.report.specs.declared.Field.{Field}
use Rattle.report.specs.declared.Kind.{Kind}
use Rattle.report.specs.declared.Kind.TheVariants.{CancelReject, SessionReject}
use Rattle.report.specs.Fields.{field, label, written, field_bytes, row_bytes}
use Rattle.report.specs.Frame.{trailer, report_bytes}
use Rattle.report.specs.Slots.{slots_of}
use Rattle.report.specs.Reports.{execution_for, kind_of, agreed, read_of}
use Rattle.report.proofs.Back.{Fits, backs, start, reading_back}
use Rattle.report.proofs.Firsts.{fits_clean, before, kind_cancel_reject, kind_session_reject, kind_execution}
use Rattle.report.proofs.Tables.{row_short}
use Rattle.rows.specs.Rows.{padded}
use Rattle.rows.proofs.Widths.{row_padded}
use Rattle.readback.specs.AsRead.{as_read}

module _ (q : Instrument) (sent stored : List ℕ) where
  -- ---- a row that fits its kind's slots
  module _ (k : Kind) (fs : List Field) (f : (sum : ℕ) → Fits sent stored (trailer sum) (slots_of q k) fs) (some : 1 ≤ length (row_bytes sent stored fs)) where
    short : length (row_bytes sent stored fs) ≤ 489
    short = row_short q k sent stored (trailer 0) fs (f 0)

    whole_back : kind_of (report_bytes (row_bytes sent stored fs)) ≡ k → agreed k fs ≡ true
        → read_of q (report_bytes (row_bytes sent stored fs)) ≡ record { kind = k; fields = backs sent stored (start (row_bytes sent stored fs)) fs }
    unfolding read_of
    whole_back e a =
        rw e (reading_back sent stored k (slots_of q k) fs f some short a)

  -- what is read of a row that fits its kind's slots
  pub row_read : (k : Kind) (fs : List Field) → ((sum : ℕ) → Fits sent stored (trailer sum) (slots_of q k) (padded fs)) → 1 ≤ length (row_bytes sent stored (padded fs))
      → kind_of (report_bytes (row_bytes sent stored (padded fs))) ≡ k → agreed k (padded fs) ≡ true
      → read_of q (report_bytes (row_bytes sent stored fs)) ≡ record { kind = k; fields = as_read sent stored fs }
  row_read k fs f some e a =
      subst (λ (b : List ℕ). read_of q (report_bytes b) ≡ record { kind = k; fields = backs sent stored (start b) (padded fs) }) (row_padded sent stored fs)
      (whole_back k (padded fs) f some e a)

  -- ---- by kind
  some_bytes : (c : ℕ) (fs : List Field) → get_or fs 0 (field 0 Absent) ≡ field 35 (Char c) → 1 ≤ length (row_bytes sent stored fs)
  unfolding field_bytes written label decimal
  some_bytes c [] e = let z : Absent ≡ Char c = ap (λ (f : Field). f.value) e in let y : ◌≡◌ {A = ℕ} 0 1 = cc in absurd (omega arith)
  some_bytes c (f ∷ fs) e = rw e (omega arith)

  module _ (fs : List Field) where
    pub execution_read : (k : Kind) (n c : ℕ) → ((sum : ℕ) → Fits sent stored (trailer sum) (slots_of q k) (padded fs))
        → get_or (padded fs) 0 (field 0 Absent) ≡ field 35 (Char 56) → before 150 n (padded fs) ≡ true → get_or (padded fs) n (field 0 Absent) ≡ field 150 (Char c)
        → execution_for c ≡ k → agreed k (padded fs) ≡ true
        → read_of q (report_bytes (row_bytes sent stored fs)) ≡ record { kind = k; fields = as_read sent stored fs }
    execution_read k n c f e b g x a =
        let some = some_bytes 56 (padded fs) e in
        row_read k fs f some
        (kind_execution sent stored (padded fs) (short k (padded fs) f some) (fits_clean sent stored (trailer 0) (slots_of q k) (padded fs) (f 0)) n c e b g ∙ x) a

    pub cancel_reject_read : ((sum : ℕ) → Fits sent stored (trailer sum) (slots_of q CancelReject) (padded fs)) → get_or (padded fs) 0 (field 0 Absent) ≡ field 35 (Char 57)
        → read_of q (report_bytes (row_bytes sent stored fs)) ≡ record { kind = CancelReject; fields = as_read sent stored fs }
    cancel_reject_read f e =
        let some = some_bytes 57 (padded fs) e in
        row_read CancelReject fs f some
        (kind_cancel_reject sent stored (padded fs) (short CancelReject (padded fs) f some) (fits_clean sent stored (trailer 0) (slots_of q CancelReject) (padded fs) (f 0)) e) refl

    pub session_reject_read : ((sum : ℕ) → Fits sent stored (trailer sum) (slots_of q SessionReject) (padded fs)) → get_or (padded fs) 0 (field 0 Absent) ≡ field 35 (Char 51)
        → read_of q (report_bytes (row_bytes sent stored fs)) ≡ record { kind = SessionReject; fields = as_read sent stored fs }
    session_reject_read f e =
        let some = some_bytes 51 (padded fs) e in
        row_read SessionReject fs f some
        (kind_session_reject sent stored (padded fs) (short SessionReject (padded fs) f some) (fits_clean sent stored (trailer 0) (slots_of q SessionReject) (padded fs) (f 0)) e) refl
