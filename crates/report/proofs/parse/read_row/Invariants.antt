-- `parse::read_row` meets its contract. The invariant: i fields are read, and what is left decides.
use Rattle.report.proofs.Parses.{SoFar}
use Rattle.report.proofs.parse.read_row.Given as goal

abbrev pub invariant-loop-i : goal.invariant-loop-i
invariant-loop-i l = SoFar l.s l.at l.slots l.fields l.next l.i
