-- The fields of a report, place by place: where the slots of a row end, with 0 for "they do not stand there". The parts of the tables that several
-- kinds share have a name. Nothing here need be believed: proofs/Standings says what it comes to in terms of Parse and Slots.
use Rattle.std.specs.Prelude.{ℕ, ◌+◌, Bool, true, false, cond, List, [], ◌∷◌, ◌++◌, eqb, length, drop, Option, Some, None}
use Rattle.decimal.specs.declared.Instrument.{Instrument}
use Rattle.report.specs.declared.Shape.{Shape}
use Rattle.report.specs.declared.Shape.TheVariants as shape
use Rattle.report.specs.declared.Slot.{Slot}
use Rattle.report.specs.declared.Got.{Got}
use Rattle.report.specs.declared.Kind.{Kind}
use Rattle.report.specs.declared.Kind.TheVariants.{Accepted, Replaced, Canceled, Trade, Rejected, CancelReject, SessionReject, Refused}
use Rattle.report.specs.Fields.{label, group_of}
use Rattle.report.specs.Parse.{starts, field_at, Rows, row, bad}
use Rattle.report.specs.Slots.{always, maybe, one_of, exact, unused, sides, symbols, own_slot, last_slot}

-- the place behind a tag and `=`
unfoldable pub value_from : List ℕ → ℕ → ℕ → ℕ
value_from s at tag = cond (eqb at 0) 0 (cond (starts (label tag) (drop at s)) (at + length (label tag)) 0)

-- the place behind what was read
abbrev pub next_of : Option Got → ℕ
next_of (Some got) = got.next
next_of None = 0

-- the place behind the field of a slot
unfoldable pub after : List ℕ → ℕ → Slot → ℕ
after s at slot = cond (eqb at 0) 0 (next_of (field_at s at slot))

-- and behind those of several
abbrev pub after_all : List ℕ → ℕ → List Slot → ℕ
after_all s at [] = at
after_all s at (slot ∷ slots) = after_all s (after s at slot) slots

-- a slot
abbrev pub slot : ℕ → Bool → Shape → Slot
slot t o x = record { tag = t; optional = o; shape = x }

-- ---- what several kinds share

-- 35, being x, to 56
abbrev pub front_slots : Instrument → ℕ → List Slot
front_slots q x =
    always 35 (shape.OneOf x x x x x)
    ∷ always 34 (shape.Range 1 999999999)
    ∷ always 49 (shape.Text 8 0x21)
    ∷ always 50 (exact (group_of q))
    ∷ always 52 shape.Time
    ∷ always 56 (shape.Text 8 0x21)
    ∷ []

-- 1 to 20 of an execution report
abbrev pub first_slots : Instrument → List Slot
first_slots q =
    maybe 1 (shape.Text 10 0x20)
    ∷ always 6 (shape.Average q)
    ∷ always 11 (shape.Text 32 0x20)
    ∷ always 14 (shape.Range 0 999999999)
    ∷ always 17 (shape.Range 1 999999999)
    ∷ always 20 (one_of "0")
    ∷ []

-- 37 to 40, 39 being x or y
abbrev pub order_slots : ℕ → ℕ → List Slot
order_slots x y =
    always 37 (shape.Range 1 999999999)
    ∷ always 38 (shape.Range 0 999999999)
    ∷ always 39 (shape.OneOf x y y y y)
    ∷ always 40 (one_of "2")
    ∷ []

-- 47 to 110
abbrev pub term_slots : Instrument → List Slot
term_slots q =
    always 47 (one_of "AP")
    ∷ always 54 (sides q)
    ∷ always 55 (symbols q)
    ∷ always 59 (one_of "034")
    ∷ always 60 shape.Time
    ∷ maybe 109 (shape.Range 1 999999)
    ∷ maybe 110 (shape.Range 0 999999999)
    ∷ []

-- 150, being x or y, and 151
abbrev pub state_slots : ℕ → ℕ → List Slot
state_slots x y = always 150 (shape.OneOf x y y y y) ∷ always 151 (shape.Range 0 999999999) ∷ []

-- 31 to 44 of a Trade
abbrev pub traded_slots : Instrument → List Slot
traded_slots q = always 31 (shape.Level q) ∷ always 32 (shape.Range 0 999999999) ∷ order_slots 49 50 ++ (always 44 (shape.Level q) ∷ [])

-- 8060 to the end
abbrev pub closing_slots : Instrument → List Slot
closing_slots q = always 8060 (one_of "13456") ∷ last_slot q ∷ unused ∷ []

-- 6 to 39 of an order rejected
abbrev pub refusal_slots : Instrument → List Slot
refusal_slots q =
    always 6 (shape.Average q)
    ∷ always 11 (shape.Text 32 0x20)
    ∷ always 14 (shape.Listed 0 0 0 0 0 0 0 0)
    ∷ always 17 (shape.Range 1 999999999)
    ∷ always 20 (one_of "0")
    ∷ always 37 (exact "NONE")
    ∷ always 38 (shape.Range 0 999999999)
    ∷ always 39 (one_of "8")
    ∷ []

-- an order replaced or canceled: 39 is x or y, 150 is z, 378 is w or 100
abbrev pub changed_slots : Instrument → ℕ → ℕ → Bool → ℕ → ℕ → List Slot
changed_slots q x y o z w =
    front_slots q 56
    ++ first_slots q
    ++ order_slots x y
    ++ (slot 41 o (shape.Text 32 0x20) ∷ always 44 (shape.Level q) ∷ [])
    ++ term_slots q
    ++ state_slots z z
    ++ (maybe 378 (shape.Listed w 100 100 100 100 100 100 100) ∷ own_slot q ∷ [])
    ++ closing_slots q

-- ---- what was read

-- the fields are those of a row
abbrev pub is_row : Rows → Bool
is_row (row fs next) = true
is_row bad = false

-- the one kind whose fields depend on each other
abbrev pub is_canceled : Kind → Bool
is_canceled Accepted = false
is_canceled Replaced = false
is_canceled Canceled = true
is_canceled Trade = false
is_canceled Rejected = false
is_canceled CancelReject = false
is_canceled SessionReject = false
is_canceled Refused = false
