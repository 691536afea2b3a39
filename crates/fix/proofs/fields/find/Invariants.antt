-- The first field with the tag. Invariant: it is the first from the cursor on.
use Rattle.std.proofs.Common.{◌≡◌, ◌-◌, length}
use Rattle.fix.specs.Fields.{find_tag, fields_of, fields_from}
use Rattle.fix.proofs.fields.find.Given as goal

abbrev pub invariant-loop-t : goal.invariant-loop-t
invariant-loop-t l = find_tag l.tag (fields_of l.s) ≡ find_tag l.tag (fields_from l.c.at l.s)

abbrev pub decreases-loop-t : goal.decreases-loop-t
decreases-loop-t l = length l.s - l.c.at
