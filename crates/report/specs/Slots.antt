-- The seven kinds of reports as tables of slots, in the order in which their fields stand: the tag, whether the field may be
-- missing, what its value may be. From sections 7.2 and 7.5.1 to 7.5.4 of source documents 000 (bonds) and 003 (equities), without
-- 797, document 01, "The reports", and document 02, T-05, T-08 and T-09. Both markets have one table for each kind; the entries that
-- depend on what is traded stand in front. Assumes nothing.
use Rattle.std.specs.Prelude.{ℕ, true, false, List, [], ◌∷◌, ◌++◌, replicate, get_or}
use Prim.Native.String.{String}
use Rattle.octets.specs.Characters.{bytes, byte_at}
use Rattle.decimal.specs.declared.Instrument.{Instrument}
use Rattle.decimal.specs.declared.Instrument.TheVariants.{Bonds, Equities}
use Rattle.report.specs.declared.Shape.{Shape}
use Rattle.report.specs.declared.Shape.TheVariants as shape
use Rattle.report.specs.declared.Slot.{Slot}
use Rattle.report.specs.declared.Kind.{Kind}
use Rattle.report.specs.declared.Kind.TheVariants as kind
use Rattle.report.specs.Fields.{group_of}

-- a field that is always there, and one that may be missing
abbrev pub always : ℕ → Shape → Slot
always t s = record { tag = t; optional = false; shape = s }

abbrev pub maybe : ℕ → Shape → Slot
maybe t s = record { tag = t; optional = true; shape = s }

-- one of some characters, five at most
abbrev pub one_of : String → Shape
one_of s = shape.OneOf (byte_at s 0) (byte_at s 1) (byte_at s 2) (byte_at s 3) (byte_at s 4)

-- just this word
abbrev pub exact : String → Shape
exact s = shape.Exact (get_or (bytes s) 0 0) (get_or (bytes s) 1 0) (get_or (bytes s) 2 0) (get_or (bytes s) 3 0)

-- no field
abbrev pub unused : Slot
unused = maybe 0 shape.Nothing

-- ---- what depends on what is traded

-- 54: a buy or a sell; equities know two more kinds of sells
abbrev pub sides : Instrument → Shape
sides Bonds = one_of "12"
sides Equities = one_of "1256"

-- 55: the digits of a bond's code, or the characters of a share's
abbrev pub symbols : Instrument → Shape
symbols Bonds = shape.Digits
symbols Equities = shape.Text 9 0x20

-- 423 of bonds, which says that a yield is quoted, and 544 of equities, for cash or on margin, stand at one place
abbrev pub own_slot : Instrument → Slot
own_slot Bonds = always 423 (shape.Listed 9 9 9 9 9 9 9 9)
own_slot Equities = always 544 (one_of "123")

-- 8214 of equities, the kind of margin
abbrev pub last_slot : Instrument → Slot
last_slot Bonds = unused
last_slot Equities = maybe 8214 (one_of "12")

-- 375 of bonds, who is on the other side of a trade, and 382, how many are
abbrev pub other_slot : Instrument → Slot
other_slot Bonds = always 375 (shape.Range 0 999999)
other_slot Equities = unused

abbrev pub count_slot : Instrument → Slot
count_slot Bonds = always 382 (shape.Listed 1 1 1 1 1 1 1 1)
count_slot Equities = unused

-- ---- the tables

-- what stands before the body of every report, by its type
abbrev pub head_slots : Instrument → String → List Slot
head_slots q type =
    always 35 (one_of type) ∷ always 34 (shape.Range 1 999999999) ∷ always 49 (shape.Text 8 0x21) ∷ always 50 (exact (group_of q))
    ∷ always 52 shape.Time ∷ always 56 (shape.Text 8 0x21) ∷ []

-- 7.5.1, Order Accepted
unfoldable pub accepted_slots : Instrument → List Slot
accepted_slots q =
    head_slots q "8"
    ++ (maybe 1 (shape.Text 10 0x20)
    ∷ always 6 (shape.Average q)
    ∷ always 11 (shape.Text 32 0x20)
    ∷ always 14 (shape.Range 0 999999999)
    ∷ always 17 (shape.Range 1 999999999)
    ∷ always 20 (one_of "0")
    ∷ always 37 (shape.Range 1 999999999)
    ∷ always 38 (shape.Range 0 999999999)
    ∷ always 39 (one_of "0")
    ∷ always 40 (one_of "2")
    ∷ always 44 (shape.Level q)
    ∷ always 47 (one_of "AP")
    ∷ always 54 (sides q)
    ∷ always 55 (symbols q)
    ∷ always 59 (one_of "034")
    ∷ always 60 shape.Time
    ∷ maybe 109 (shape.Range 1 999999)
    ∷ maybe 110 (shape.Range 0 999999999)
    ∷ always 150 (one_of "0")
    ∷ always 151 (shape.Range 0 999999999)
    ∷ own_slot q
    ∷ always 8060 (one_of "13456")
    ∷ last_slot q
    ∷ replicate 7 unused)

-- 7.5.2, Order Replaced: requested, or a decrement with 378
unfoldable pub replaced_slots : Instrument → List Slot
replaced_slots q =
    head_slots q "8"
    ++ (maybe 1 (shape.Text 10 0x20)
    ∷ always 6 (shape.Average q)
    ∷ always 11 (shape.Text 32 0x20)
    ∷ always 14 (shape.Range 0 999999999)
    ∷ always 17 (shape.Range 1 999999999)
    ∷ always 20 (one_of "0")
    ∷ always 37 (shape.Range 1 999999999)
    ∷ always 38 (shape.Range 0 999999999)
    ∷ always 39 (one_of "15")
    ∷ always 40 (one_of "2")
    ∷ always 41 (shape.Text 32 0x20)
    ∷ always 44 (shape.Level q)
    ∷ always 47 (one_of "AP")
    ∷ always 54 (sides q)
    ∷ always 55 (symbols q)
    ∷ always 59 (one_of "034")
    ∷ always 60 shape.Time
    ∷ maybe 109 (shape.Range 1 999999)
    ∷ maybe 110 (shape.Range 0 999999999)
    ∷ always 150 (one_of "5")
    ∷ always 151 (shape.Range 0 999999999)
    ∷ maybe 378 (shape.Listed 100 100 100 100 100 100 100 100)
    ∷ own_slot q
    ∷ always 8060 (one_of "13456")
    ∷ last_slot q
    ∷ replicate 5 unused)

-- 7.5.3, Order Canceled: requested with 41, else with 378
unfoldable pub canceled_slots : Instrument → List Slot
canceled_slots q =
    head_slots q "8"
    ++ (maybe 1 (shape.Text 10 0x20)
    ∷ always 6 (shape.Average q)
    ∷ always 11 (shape.Text 32 0x20)
    ∷ always 14 (shape.Range 0 999999999)
    ∷ always 17 (shape.Range 1 999999999)
    ∷ always 20 (one_of "0")
    ∷ always 37 (shape.Range 1 999999999)
    ∷ always 38 (shape.Range 0 999999999)
    ∷ always 39 (one_of "4")
    ∷ always 40 (one_of "2")
    ∷ maybe 41 (shape.Text 32 0x20)
    ∷ always 44 (shape.Level q)
    ∷ always 47 (one_of "AP")
    ∷ always 54 (sides q)
    ∷ always 55 (symbols q)
    ∷ always 59 (one_of "034")
    ∷ always 60 shape.Time
    ∷ maybe 109 (shape.Range 1 999999)
    ∷ maybe 110 (shape.Range 0 999999999)
    ∷ always 150 (one_of "4")
    ∷ always 151 (shape.Range 0 999999999)
    ∷ maybe 378 (shape.Listed 99 100 100 100 100 100 100 100)
    ∷ own_slot q
    ∷ always 8060 (one_of "13456")
    ∷ last_slot q
    ∷ replicate 5 unused)

-- 7.5.4, Trade
unfoldable pub trade_slots : Instrument → List Slot
trade_slots q =
    head_slots q "8"
    ++ (maybe 1 (shape.Text 10 0x20)
    ∷ always 6 (shape.Average q)
    ∷ always 11 (shape.Text 32 0x20)
    ∷ always 14 (shape.Range 0 999999999)
    ∷ always 17 (shape.Range 1 999999999)
    ∷ always 20 (one_of "0")
    ∷ always 31 (shape.Level q)
    ∷ always 32 (shape.Range 0 999999999)
    ∷ always 37 (shape.Range 1 999999999)
    ∷ always 38 (shape.Range 0 999999999)
    ∷ always 39 (one_of "12")
    ∷ always 40 (one_of "2")
    ∷ always 44 (shape.Level q)
    ∷ always 47 (one_of "AP")
    ∷ always 54 (sides q)
    ∷ always 55 (symbols q)
    ∷ always 59 (one_of "034")
    ∷ always 60 shape.Time
    ∷ maybe 109 (shape.Range 1 999999)
    ∷ maybe 110 (shape.Range 0 999999999)
    ∷ always 150 (one_of "12")
    ∷ always 151 (shape.Range 0 999999999)
    ∷ other_slot q
    ∷ count_slot q
    ∷ own_slot q
    ∷ always 851 (shape.Listed 1 2 2 2 2 2 2 2)
    ∷ always 880 (shape.Range 1 999999999)
    ∷ always 8060 (one_of "13456")
    ∷ last_slot q
    ∷ replicate 1 unused)

-- an order rejected, 103 saying why
unfoldable pub rejected_slots : Instrument → List Slot
rejected_slots q =
    head_slots q "8"
    ++ (always 6 (shape.Average q)
    ∷ always 11 (shape.Text 32 0x20)
    ∷ always 14 (shape.Listed 0 0 0 0 0 0 0 0)
    ∷ always 17 (shape.Range 1 999999999)
    ∷ always 20 (one_of "0")
    ∷ always 37 (exact "NONE")
    ∷ always 38 (shape.Range 0 999999999)
    ∷ always 39 (one_of "8")
    ∷ always 54 (sides q)
    ∷ always 55 (symbols q)
    ∷ always 103 (shape.Listed 0 1 6 99 99 99 99 99)
    ∷ always 150 (one_of "8")
    ∷ always 151 (shape.Listed 0 0 0 0 0 0 0 0)
    ∷ replicate 17 unused)

-- a cancel or replace rejected, 102 saying why and 434 what was asked
unfoldable pub cancel_reject_slots : Instrument → List Slot
cancel_reject_slots q =
    head_slots q "9"
    ++ (always 11 (shape.Text 32 0x20)
    ∷ always 37 shape.OrderId
    ∷ always 39 (one_of "01248")
    ∷ always 41 (shape.Text 32 0x20)
    ∷ always 102 (shape.Listed 0 1 2 2 2 2 2 2)
    ∷ always 434 (shape.Listed 1 2 2 2 2 2 2 2)
    ∷ replicate 24 unused)

-- 7.4.5, a session Reject
unfoldable pub session_reject_slots : Instrument → List Slot
session_reject_slots q =
    head_slots q "3"
    ++ (always 45 (shape.Range 1 999999999)
    ∷ always 371 (shape.Range 1 9999)
    ∷ always 372 (shape.Text 2 0x20)
    ∷ always 373 (shape.Listed 1 2 3 4 5 6 9 11)
    ∷ replicate 26 unused)

-- the slots of a kind
abbrev pub slots_of : Instrument → Kind → List Slot
slots_of q kind.Accepted = accepted_slots q
slots_of q kind.Replaced = replaced_slots q
slots_of q kind.Canceled = canceled_slots q
slots_of q kind.Trade = trade_slots q
slots_of q kind.Rejected = rejected_slots q
slots_of q kind.CancelReject = cancel_reject_slots q
slots_of q kind.SessionReject = session_reject_slots q
slots_of q kind.Refused = replicate 36 unused
