-- `parse::label_at` meets its contract. The invariant: what is still to be compared, i digits of m, decides.
use Rattle.report.proofs.Labels.{Matching}
use Rattle.report.proofs.parse.label_at.Given as goal

abbrev pub invariant-loop-i : goal.invariant-loop-i
invariant-loop-i l = Matching l.s l.at l.tag l.k l.i l.m

abbrev pub decreases-loop-i : goal.decreases-loop-i
decreases-loop-i l = l.i
