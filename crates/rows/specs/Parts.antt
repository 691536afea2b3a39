-- The four kinds of execution report as one row, in the parts that are written one after another: a field that a kind has not is
-- absent, or stands in a part that is left out. Nothing here need be believed: proofs/Executions shows that the bytes are those of the rows
-- of each kind.
use Rattle.std.specs.Prelude.{Option, Some, None, List, [], ◌∷◌, ◌++◌, ℕ, ◌+◌, ◌%◌}
use Rattle.octets.specs.Characters.{byte}
use Rattle.decimal.specs.declared.Instrument.{Instrument}
use Rattle.matching.specs.Matching.{open_of}
use Rattle.report.specs.declared.Value.{Value}
use Rattle.report.specs.declared.Value.TheVariants.{Absent, Number, Char, Level, Mean}
use Rattle.report.specs.declared.Field.{Field}
use Rattle.rows.specs.declared.Stamp.{Stamp}
use Rattle.rows.specs.declared.Shown.{Shown}
use Rattle.rows.specs.declared.Ground.{Ground}
use Rattle.rows.specs.declared.Fill.{Fill}
use Rattle.rows.specs.declared.Told.{Told}
use Rattle.rows.specs.Rows.{◌is◌, char, digit, or_number, own_field, last_field, other_field, count_field, avg_px, trade_status, replaced_status, header}

-- ---- the parts

unfoldable pub first_part : Stamp → Shown → List Field
first_part s o =
    1 is o.account
    ∷ 6 is Mean s.of (avg_px o.order)
    ∷ 11 is o.id
    ∷ 14 is Number o.order.executed
    ∷ 17 is Number s.number
    ∷ 20 is char "0"
    ∷ []

unfoldable pub fill_part : Instrument → Option Fill → List Field
fill_part q (Some f) = 31 is Level q f.level ∷ 32 is Number f.quantity ∷ []
fill_part q None = []

unfoldable pub terms_part : Instrument → Shown → ℕ → Value → List Field
terms_part q o status orig =
    37 is Number o.orderid
    ∷ 38 is Number o.order.qty
    ∷ 39 is Char status
    ∷ 40 is char "2"
    ∷ 41 is orig
    ∷ 44 is Level q o.order.level
    ∷ []

unfoldable pub details_part : Stamp → Shown → List Field
details_part s o =
    47 is Char o.capacity
    ∷ 54 is digit o.order.side
    ∷ 55 is o.code
    ∷ 59 is digit o.order.tif
    ∷ 60 is s.time
    ∷ 109 is or_number o.order.mpid
    ∷ 110 is or_number o.order.minqty
    ∷ []

unfoldable pub state_part : Shown → ℕ → List Field
state_part o kind = 150 is Char kind ∷ 151 is Number (open_of o.order) ∷ []

unfoldable pub others_part : Instrument → Option Fill → List Field
others_part q (Some f) = other_field q f ∷ count_field q ∷ []
others_part q None = []

unfoldable pub reason_part : Instrument → Shown → Value → List Field
reason_part q o reason = 378 is reason ∷ own_field q o ∷ []

unfoldable pub liquidity_part : Option Fill → List Field
liquidity_part (Some f) = 851 is Number f.liquidity ∷ 880 is Number f.first ∷ []
liquidity_part None = []

unfoldable pub last_part : Instrument → Shown → List Field
last_part q o = 8060 is digit o.class ∷ last_field q o ∷ []

-- ---- the row

unfoldable pub upper_part : Stamp → Shown → Told → List Field
upper_part s o v =
    header (byte "8") s
    ++ (first_part s o ++ (fill_part s.of v.fill ++ terms_part s.of o v.status v.orig))

unfoldable pub lower_part : Stamp → Shown → Told → List Field
lower_part s o v =
    details_part s o
    ++ (state_part o v.kind
    ++ (others_part s.of v.fill
    ++ (reason_part s.of o v.reason ++ (liquidity_part v.fill ++ last_part s.of o))))

unfoldable pub execution_fields : Stamp → Shown → Told → List Field
execution_fields s o v = upper_part s o v ++ lower_part s o v

-- ---- the kinds

abbrev pub accepted_told : Told
accepted_told = record { status = byte "0"; kind = byte "0"; orig = Absent; reason = Absent; fill = None }

abbrev pub replaced_told : Shown → Ground → Told
replaced_told o w =
    record {
      status = byte "0" + replaced_status o.order % 10;
      kind = byte "5";
      orig = w.orig;
      reason = w.reason;
      fill = None;
    }

abbrev pub canceled_told : Ground → Told
canceled_told w = record { status = byte "4"; kind = byte "4"; orig = w.orig; reason = w.reason; fill = None }

abbrev pub traded_told : Shown → Fill → Told
traded_told o f =
    record {
      status = byte "0" + trade_status o.order % 10;
      kind = byte "0" + trade_status o.order % 10;
      orig = Absent;
      reason = Absent;
      fill = Some f;
    }
