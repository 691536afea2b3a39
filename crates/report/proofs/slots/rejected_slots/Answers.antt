-- `slots::rejected_slots` is the table of specs/Slots: with the entries that depend on what is traded left open, and then filled in.
use mathlib.Core.Path.{◌≡◌}
use mathlib.Core.List.{List, ◌∷◌}
use lib.ListN.{replicate}
use Rattle.decimal.specs.declared.Instrument.{Instrument}
use Rattle.report.specs.declared.Shape.TheVariants as shape
use Rattle.report.specs.declared.Slot.{Slot}
use Rattle.report.specs.Fields.{group_of}
use Rattle.report.specs.Slots.{always, one_of, exact, unused, sides, symbols, rejected_slots}
use Rattle.report.proofs.slots.rejected_slots.Goals as goal

abbrev filled : Slot → Slot → Slot → Slot → List Slot
filled group average side symbol =
    always 35 (one_of "8")
    ∷ always 34 (shape.Range 1 999999999)
    ∷ always 49 (shape.Text 8 0x21)
    ∷ group
    ∷ always 52 shape.Time
    ∷ always 56 (shape.Text 8 0x21)
    ∷ average
    ∷ always 11 (shape.Text 32 0x20)
    ∷ always 14 (shape.Listed 0 0 0 0 0 0 0 0)
    ∷ always 17 (shape.Range 1 999999999)
    ∷ always 20 (one_of "0")
    ∷ always 37 (exact "NONE")
    ∷ always 38 (shape.Range 0 999999999)
    ∷ always 39 (one_of "8")
    ∷ side
    ∷ symbol
    ∷ always 103 (shape.Listed 0 1 6 99 99 99 99 99)
    ∷ always 150 (one_of "8")
    ∷ always 151 (shape.Listed 0 0 0 0 0 0 0 0)
    ∷ replicate 17 unused

filled_is : {q : Instrument} {group average side symbol : Slot} → group ≡ always 50 (exact (group_of q)) → average ≡ always 6 (shape.Average q)
    → side ≡ always 54 (sides q) → symbol ≡ always 55 (symbols q) → filled group average side symbol ≡ rejected_slots q
unfolding rejected_slots
filled_is g a s y = λ j. filled (g j) (a j) (s j) (y j)

pub returns : goal.returns
returns c = filled_is c.sender_sub_id-group.ensures c.avg_px-average.ensures c.side-side.ensures c.symbol-symbol.ensures
