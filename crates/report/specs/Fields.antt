-- A field of a report and a row of them as bytes: the tag's digits, `=`, the value, SOH; document 01, "The reports". The texts
-- of a row stand in the message that was sent or in the table where they are stored; a yield or a price is given as its level, and
-- AvgPx as its mean, each with what is traded. Assumes nothing.
use Rattle.std.specs.Prelude.{Bool, true, false, cond, List, [], ◌∷◌, ◌++◌, eqb, get_or, ℕ}
use Prim.Native.String.{String}
use Rattle.octets.specs.Characters.{bytes, soh}
use Rattle.octets.specs.Octets.{part_at}
use Rattle.decimal.specs.declared.Instrument.{Instrument}
use Rattle.decimal.specs.declared.Instrument.TheVariants.{Bonds, Equities}
use Rattle.decimal.specs.Writing.{decimal, level_text, mean_text}
use Rattle.report.specs.declared.Value.{Value}
use Rattle.report.specs.declared.Value.TheVariants.{Absent, Number, Char, Word, Sent, Stored, Level, Mean}
use Rattle.report.specs.declared.Field.{Field}

-- a field with this tag and this value
abbrev pub field : ℕ → Value → Field
field t v = record { tag = t; value = v }

-- a word of three or four characters: 0 is in the place of a fourth that is not there
abbrev pub word : String → Value
word s = Word (get_or (bytes s) 0 0) (get_or (bytes s) 1 0) (get_or (bytes s) 2 0) (get_or (bytes s) 3 0)

-- its bytes
abbrev pub word_bytes : ℕ → ℕ → ℕ → ℕ → List ℕ
word_bytes w x y z = w ∷ x ∷ y ∷ cond (eqb z 0) [] (z ∷ [])

-- 50, the group of what is traded
abbrev pub group_of : Instrument → String
group_of Bonds = "DJGB"
group_of Equities = "DAY"

-- the value is not there
abbrev pub is_absent : Value → Bool
is_absent Absent = true
is_absent (Number n) = false
is_absent (Char c) = false
is_absent (Word w x y z) = false
is_absent (Sent from len) = false
is_absent (Stored from len) = false
is_absent (Level q level) = false
is_absent (Mean q mean) = false

-- the bytes of a value
abbrev pub value_bytes : List ℕ → List ℕ → Value → List ℕ
value_bytes sent stored Absent = []
value_bytes sent stored (Number n) = decimal n
value_bytes sent stored (Char c) = c ∷ []
value_bytes sent stored (Word w x y z) = word_bytes w x y z
value_bytes sent stored (Sent from len) = part_at sent from len
value_bytes sent stored (Stored from len) = part_at stored from len
value_bytes sent stored (Level q level) = level_text q level
value_bytes sent stored (Mean q mean) = mean_text q mean

-- a tag and `=`
unfoldable pub label : ℕ → List ℕ
label tag = decimal tag ++ bytes "="

-- a tag with a value, as they are written
unfoldable pub written : ℕ → List ℕ → List ℕ
written tag value = label tag ++ value ++ (soh ∷ [])

-- a field; nothing where it is absent
unfoldable pub field_bytes : List ℕ → List ℕ → Field → List ℕ
field_bytes sent stored f = cond (is_absent f.value) [] (written f.tag (value_bytes sent stored f.value))

-- the fields of a row, one after another
abbrev pub row_bytes : List ℕ → List ℕ → List Field → List ℕ
row_bytes sent stored [] = []
row_bytes sent stored (f ∷ fs) = field_bytes sent stored f ++ row_bytes sent stored fs
