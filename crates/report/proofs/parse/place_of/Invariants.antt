-- `parse::place_of` meets its contract. The invariant: from where the search stands on, the label is as far as it was.
use Rattle.report.proofs.Walks.{Sought}
use Rattle.report.specs.Fields.{label}
use Prim.Native.Nat.{◌-◌}
use lib.ListN.{length}
use Rattle.report.proofs.parse.place_of.Given as goal

abbrev pub invariant-loop-at : goal.invariant-loop-at
invariant-loop-at l = Sought (label l.tag) l.s l.at

abbrev pub decreases-loop-at : goal.decreases-loop-at
decreases-loop-at l = length l.s - l.at
