-- The tables of the seven kinds: no shape takes an SOH, and no report of any kind is longer than 512 bytes.
use Prim.Native.Nat.{ℕ, ◌≤◌}
use mathlib.Core.List.{List}
use native.Mathlib.Nat.{le_trans}
use lib.Dec.{lit≤}
use lib.ListN.{length}
use Rattle.decimal.specs.Writing.{decimal}
use Rattle.decimal.specs.declared.Instrument.{Instrument}
use Rattle.decimal.specs.declared.Instrument.TheVariants.{Bonds, Equities}
use Rattle.report.specs.declared.Field.{Field}
use Rattle.report.specs.declared.Kind.{Kind}
use Rattle.report.specs.declared.Kind.TheVariants.{Accepted, Replaced, Canceled, Trade, Rejected, CancelReject, SessionReject, Refused}
use Rattle.report.specs.Fields.{label, row_bytes}
use Rattle.report.specs.Frame.{report_bytes}
use Rattle.report.specs.Slots.{accepted_slots, replaced_slots, canceled_slots, trade_slots, rejected_slots, cancel_reject_slots, session_reject_slots, slots_of}
use Rattle.report.proofs.Bytes.{report_length}
use Rattle.report.proofs.Back.{Fits, widths, fits_short}

-- what the fields of a kind take at most
pub widths_most : (q : Instrument) (k : Kind) → widths (slots_of q k) ≤ 489
unfolding accepted_slots replaced_slots canceled_slots trade_slots rejected_slots cancel_reject_slots session_reject_slots label decimal
widths_most Bonds Accepted = lit≤ tt
widths_most Bonds Replaced = lit≤ tt
widths_most Bonds Canceled = lit≤ tt
widths_most Bonds Trade = lit≤ tt
widths_most Bonds Rejected = lit≤ tt
widths_most Bonds CancelReject = lit≤ tt
widths_most Bonds SessionReject = lit≤ tt
widths_most Bonds Refused = lit≤ tt
widths_most Equities Accepted = lit≤ tt
widths_most Equities Replaced = lit≤ tt
widths_most Equities Canceled = lit≤ tt
widths_most Equities Trade = lit≤ tt
widths_most Equities Rejected = lit≤ tt
widths_most Equities CancelReject = lit≤ tt
widths_most Equities SessionReject = lit≤ tt
widths_most Equities Refused = lit≤ tt

-- a row that fits a kind's slots leaves room in 512 bytes
pub row_short : (q : Instrument) (k : Kind) (sent stored post : List ℕ) (fs : List Field) → Fits sent stored post (slots_of q k) fs
    → length (row_bytes sent stored fs) ≤ 489
row_short q k sent stored post fs f = le_trans (fits_short sent stored post (slots_of q k) fs f) (widths_most q k)

-- no report is longer than 512 bytes
pub report_short : (q : Instrument) (k : Kind) (sent stored post : List ℕ) (fs : List Field) → Fits sent stored post (slots_of q k) fs
    → length (report_bytes (row_bytes sent stored fs)) ≤ 512
report_short q k sent stored post fs f = report_length (row_bytes sent stored fs) (row_short q k sent stored post fs f)
