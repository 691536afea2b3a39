-- What a report is: document 01, Read and refusal 11. 8 and 9 stand first and 10 last; 9 is the length of the body and 10 the
-- CheckSum of all before it; the body is the fields of one kind, slot by slot, and nothing else. 35, and 150 where 35 is 8, say
-- which kind it can be. A Canceled has exactly one of 41 and 378. No other field is compared with another. Each market reads its own
-- reports: q is what it trades. Assumes nothing.
use Rattle.std.specs.Prelude.{ℕ, ◌+◌, Bool, true, false, cond, not, ◌&&◌, List, ltb, leb, eqb, length, take, drop, get_or, Option, Some, None, option_and_then}
use Rattle.octets.specs.Octets.{same_bytes}
use Rattle.octets.specs.Characters.{byte}
use Rattle.decimal.specs.declared.Instrument.{Instrument}
use Rattle.report.specs.declared.Value.{Value}
use Rattle.report.specs.declared.Value.TheVariants.{Absent, Number, Char, Word, Sent, Stored, Level, Mean}
use Rattle.report.specs.declared.Field.{Field}
use Rattle.report.specs.declared.Shape.TheVariants as shape
use Rattle.report.specs.declared.Slot.{Slot}
use Rattle.report.specs.declared.Got.{Got}
use Rattle.report.specs.declared.Kind.{Kind}
use Rattle.report.specs.declared.Kind.TheVariants.{Accepted, Replaced, Canceled, Trade, Rejected, CancelReject, SessionReject, Refused}
use Rattle.report.specs.declared.Reading.{Reading}
use Rattle.fix.specs.declared.frame.Part.{Part}
use Rattle.report.specs.Fields.{field, is_absent, label, written}
use Rattle.report.specs.Frame.{version, trailer, check_sum}
use Rattle.report.specs.Parse.{starts, len_to, field_at, Rows, row, bad, read_row, no_fields, place_of}
use Rattle.report.specs.Slots.{always, slots_of}

-- ---- the frame

-- a part of the bytes
abbrev pub part : ℕ → ℕ → Option Part
part start len = Some (record { start = start; len = len })

-- 9 is a number, and the body ends within the bytes
abbrev pub length_is : Value → ℕ → ℕ → Option Part
length_is Absent next n = None
length_is (Number len) next n = cond (leb (next + len) n) (part next len) None
length_is (Char c) next n = None
length_is (Word w x y z) next n = None
length_is (Sent from len) next n = None
length_is (Stored from len) next n = None
length_is (Level q level) next n = None
length_is (Mean q mean) next n = None

abbrev pub length_in : Got → ℕ → Option Part
length_in got n = length_is got.value got.next n

-- 9: up to three digits, since no report is longer than 512 bytes
abbrev pub length_slot : Slot
length_slot = always 9 (shape.Range 1 999)

-- where the body stands
unfoldable pub body_at : List ℕ → Option Part
body_at s = cond (starts (written 8 version) s) (option_and_then (λ got. length_in got (length s)) (field_at s 10 length_slot)) None

-- 10 is all that follows the body, and it is true
unfoldable pub trailer_at : List ℕ → ℕ → Bool
trailer_at s end = same_bytes (drop end s) (trailer (check_sum (take end s)))

-- the fields fill the body, and 10 is true
abbrev pub checked : List ℕ → ℕ → Rows → Rows
checked s end (row fs next) = cond (eqb next end && trailer_at s end) (row fs next) bad
checked s end bad = bad

abbrev pub in_frame : List ℕ → List Slot → Option Part → Rows
in_frame s slots (Some body) = checked s (body.start + body.len) (read_row s body.start slots)
in_frame s slots None = bad

-- the fields of a report that has these slots
unfoldable pub read_framed : List ℕ → List Slot → Rows
read_framed s slots = in_frame s slots (body_at s)

-- ---- the kind

-- the execution report that 150 says
unfoldable pub execution_for : ℕ → Kind
execution_for b =
    cond (eqb b (byte "0")) Accepted
    (cond (eqb b (byte "5")) Replaced
    (cond (eqb b (byte "4")) Canceled
    (cond (eqb b (byte "1")) Trade
    (cond (eqb b (byte "2")) Trade
    (cond (eqb b (byte "8")) Rejected Refused)))))

-- the kind that 35 and 150 say
unfoldable pub kind_for : ℕ → ℕ → Kind
kind_for a b = cond (eqb a (byte "3")) SessionReject (cond (eqb a (byte "9")) CancelReject (cond (eqb a (byte "8")) (execution_for b) Refused))

-- the first character of a tag's value, and 0 where there is none
unfoldable pub first_of : List ℕ → ℕ → ℕ
first_of s tag = get_or s (place_of (label tag) true s + length (label tag)) 0

-- the kind that a report can be
unfoldable pub kind_of : List ℕ → Kind
kind_of s = kind_for (first_of s 35) (first_of s 150)

-- ---- the whole

-- exactly one of 41, the 17th field of a Canceled, and 378, its 28th, is there
unfoldable pub one_reason : List Field → Bool
one_reason fs = cond (is_absent (get_or fs 16 (field 0 Absent)).value) (not (is_absent (get_or fs 27 (field 0 Absent)).value)) (is_absent (get_or fs 27 (field 0 Absent)).value)

-- the fields that stand are those of one way of writing the kind
abbrev pub agreed : Kind → List Field → Bool
agreed Accepted fs = true
agreed Replaced fs = true
agreed Canceled fs = one_reason fs
agreed Trade fs = true
agreed Rejected fs = true
agreed CancelReject fs = true
agreed SessionReject fs = true
agreed Refused fs = false

-- refusal 11
abbrev pub refused : Reading
refused = record { kind = Refused; fields = no_fields }

abbrev pub reading_of : Kind → Rows → Reading
reading_of k (row fs next) = cond (agreed k fs) (record { kind = k; fields = fs }) refused
reading_of k bad = refused

-- what the bytes are: a report of a kind with its fields, or none
unfoldable pub read_of : Instrument → List ℕ → Reading
read_of q s = reading_of (kind_of s) (read_framed s (slots_of q (kind_of s)))

-- where the value of the first field with a tag stands, and how long it is
unfoldable pub part_of : List ℕ → ℕ → Option Part
part_of s tag =
    cond (ltb (place_of (label tag) true s) (length s))
    (part (place_of (label tag) true s + length (label tag)) (len_to (drop (place_of (label tag) true s + length (label tag)) s)))
    None
