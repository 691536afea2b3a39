-- A drop copy as a row of fields, made from the row that Read gives of a report, and as a table of slots, made from those of the report's
-- kind (document 02, T-01, T-05 and T-08; source documents 000 and 003, 4.2, 5.1 and 7.5.1 to 7.5.4). 34 and 17 are the feed's number, 109
-- is the text of the identifiers, 797=Y stands where ascending tags put it, a Fill or Kill order has other 59 and 110, and all else is the
-- report's. q is what is traded. Assumes nothing.
use Rattle.std.specs.Prelude.{ℕ, Bool, false, cond, List, [], ◌∷◌, map, eqb, ltb, take}
use Rattle.octets.specs.Characters.{byte}
use Rattle.decimal.specs.declared.Instrument.{Instrument}
use Rattle.decimal.specs.declared.Instrument.TheVariants.{Bonds, Equities}
use Rattle.report.specs.declared.Value.{Value}
use Rattle.report.specs.declared.Value.TheVariants.{Absent, Number, Char, Word, Sent, Stored, Level, Mean}
use Rattle.report.specs.declared.Field.{Field}
use Rattle.report.specs.declared.Shape.TheVariants as shape
use Rattle.report.specs.declared.Slot.{Slot}
use Rattle.report.specs.Fields.{field}
use Rattle.report.specs.Slots.{always, one_of}
use Rattle.feed.specs.Kept.{at_tag}

-- ---- 797 among fields or slots: each is changed, up to the first of a higher tag, and 797's stands in front of that one
unfoldable pub with797 : {A : Type 0} → (A → ℕ) → (A → A) → A → List A → List A
with797 tag_of change indicator [] = indicator ∷ []
with797 tag_of change indicator (x ∷ xs) =
    cond (ltb 797 (tag_of x)) (indicator ∷ x ∷ xs) (change x ∷ with797 tag_of change indicator xs)

-- ---- Fill or Kill: a copy shows it as Immediate or Cancel, with the whole quantity as its minimum

-- the value is 4
abbrev pub is_four : Value → Bool
is_four Absent = false
is_four (Number n) = false
is_four (Char c) = eqb c (byte "4")
is_four (Word w x y z) = false
is_four (Sent from len) = false
is_four (Stored from len) = false
is_four (Level q level) = false
is_four (Mean q mean) = false

-- the report's order is Fill or Kill: 59 is 4
unfoldable pub is_fill_or_kill : List Field → Bool
is_fill_or_kill fs = at_tag is_four false 59 fs

-- the value of the first field with a tag, absent where no field has it
abbrev pub value_of : ℕ → List Field → Value
value_of g fs = at_tag (λ v. v) Absent g fs

-- 59 is 3 and 110 is the quantity, whether it was there or not; all else stays
unfoldable pub ioc_value : Value → ℕ → Value → Value
ioc_value quantity tag v = cond (eqb tag 59) (Char (byte "3")) (cond (eqb tag 110) quantity v)

unfoldable pub ioc_field : Value → Field → Field
ioc_field quantity f = field f.tag (ioc_value quantity f.tag f.value)

-- the fields of a report, its 59 and 110 as a copy shows them: the quantity is 38's value
unfoldable pub shown_row : List Field → List Field
shown_row fs = cond (is_fill_or_kill fs) (map (ioc_field (value_of 38 fs)) fs) fs

-- ---- the row

-- the value of a field of a copy: number is the feed's, and 109's text is the first width bytes of what is stored
unfoldable pub copy_value : ℕ → ℕ → ℕ → Value → Value
copy_value number width tag v =
    cond (eqb tag 34) (Number number) (cond (eqb tag 17) (Number number) (cond (eqb tag 109) (Stored 0 width) v))

unfoldable pub copy_field : ℕ → ℕ → Field → Field
copy_field number width f = field f.tag (copy_value number width f.tag f.value)

-- 797=Y
abbrev pub yes797 : Field
yes797 = field 797 (Char (byte "Y"))

-- 36 fields, as a report's row has; no report uses its last one
unfoldable pub copy_row : ℕ → ℕ → List Field → List Field
copy_row number width fs = with797 (λ f. f.tag) (copy_field number width) yes797 (take 35 (shown_row fs))

-- ---- the slots

-- the longest text of 109
abbrev pub longest : Instrument → ℕ
longest Bonds = 30
longest Equities = 20

-- 109 is always there: one character or more from 21 to 7E hex
abbrev pub slot109 : Instrument → Slot
slot109 q = always 109 (shape.Text (longest q) 0x21)

-- 59 is always there: no copy shows Fill or Kill
abbrev pub slot59 : Slot
slot59 = always 59 (one_of "03")

unfoldable pub copy_slot : Instrument → Slot → Slot
copy_slot q slot = cond (eqb slot.tag 109) (slot109 q) (cond (eqb slot.tag 59) slot59 slot)

-- 797 is always there: Y
abbrev pub slot797 : Slot
slot797 = always 797 (one_of "Y")

unfoldable pub copy_slots : Instrument → List Slot → List Slot
copy_slots q slots = with797 (λ s. s.tag) (copy_slot q) slot797 (take 35 slots)
