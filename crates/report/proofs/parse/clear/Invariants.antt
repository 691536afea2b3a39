-- `parse::clear` meets its contract. The invariant: no field with the tag begins up to where the search stands.
use Prim.Native.Nat.{◌-◌}
use lib.ListN.{length}
use Rattle.report.specs.Search.{Cleared}
use Rattle.report.proofs.parse.clear.Given as goal

abbrev pub invariant-loop-to : goal.invariant-loop-to
invariant-loop-to l = Cleared l.tag l.s l.at l.to

abbrev pub decreases-loop-to : goal.decreases-loop-to
decreases-loop-to l = length l.s - l.to
