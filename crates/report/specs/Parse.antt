-- How the fields of a report are read from its bytes, slot by slot: a slot's tag and `=`, a value that goes to the next SOH and
-- has the slot's shape; a field that may be missing is passed over where another tag stands. Assumes nothing.
use Rattle.std.specs.Prelude.{ℕ, suc, ◌+◌, Bool, true, false, cond, ◌&&◌, List, [], ◌∷◌, ltb, eqb, length, take, drop, replicate, Option, Some, None}
use Rattle.octets.specs.Characters.{soh}
use Rattle.report.specs.declared.Value.{Value}
use Rattle.report.specs.declared.Value.TheVariants.{Absent}
use Rattle.report.specs.declared.Field.{Field}
use Rattle.report.specs.declared.Shape.{Shape}
use Rattle.report.specs.declared.Slot.{Slot}
use Rattle.report.specs.declared.Row.{Row}
use Rattle.report.specs.declared.Got.{Got}
use Rattle.report.specs.Fields.{field, label}
use Rattle.report.specs.Shapes.{value_in}

-- s begins with p
abbrev pub starts : List ℕ → List ℕ → Bool
starts [] s = true
starts (a ∷ p) [] = false
starts (a ∷ p) (b ∷ s) = cond (eqb b a) (starts p s) false

-- how many bytes stand before the first SOH
abbrev pub len_to : List ℕ → ℕ
len_to [] = 0
len_to (b ∷ s) = cond (eqb b soh) 0 (suc (len_to s))

-- a value that was read, with the place behind its field
abbrev pub found : Value → ℕ → Option Got
found value next = Some (record { value = value; next = next })

-- a value that was picked, with the place behind it
abbrev pub got_of : Option Value → ℕ → Option Got
got_of (Some value) next = found value next
got_of None next = None

-- the value from place v on goes to the next SOH
unfoldable pub value_at : List ℕ → ℕ → Shape → Option Got
value_at s v shape =
    cond (ltb (v + len_to (drop v s)) (length s))
    (got_of (value_in shape v (take (len_to (drop v s)) (drop v s))) (v + len_to (drop v s) + 1))
    None

-- the field at a place, as its slot says
unfoldable pub field_at : List ℕ → ℕ → Slot → Option Got
field_at s at slot =
    cond (starts (label slot.tag) (drop at s))
    (value_at s (at + length (label slot.tag)) slot.shape)
    (cond slot.optional (found Absent at) None)

-- the fields that were read and the place behind them, or neither
pub data Rows : Type 0 where
  row : List Field → ℕ → Rows
  bad : Rows

abbrev pub cons_row : Field → Rows → Rows
cons_row f (row fs n) = row (f ∷ fs) n
cons_row f bad = bad

abbrev pub next_rows : ℕ → Option Got → (ℕ → Rows) → Rows
next_rows tag (Some got) k = cons_row (field tag got.value) (k got.next)
next_rows tag None k = bad

-- slot by slot
abbrev pub read_row : List ℕ → ℕ → List Slot → Rows
read_row s at [] = row [] at
read_row s at (slot ∷ slots) = next_rows slot.tag (field_at s at slot) (λ n. read_row s n slots)

-- what no report gives
abbrev pub no_fields : List Field
no_fields = replicate 36 (field 0 Absent)

abbrev pub row_of : Rows → Option Row
row_of (row fs n) = Some (record { next = n; fields = fs })
row_of bad = None

-- ---- where a field stands

-- how many bytes up to and with the next SOH
unfoldable pub hop : List ℕ → ℕ
hop [] = 0
hop (b ∷ s) = cond (eqb b soh) 1 (suc (hop s))

-- how many bytes stand before the first field that begins with the label; all where there is none. Fresh is: a field begins here
unfoldable pub place_of : List ℕ → Bool → List ℕ → ℕ
place_of lab fresh [] = 0
place_of lab fresh (b ∷ s) = cond (fresh && starts lab (b ∷ s)) 0 (suc (place_of lab (eqb b soh) s))
