-- `table::look::Offers::sum_before` meets its contract: r is the sum of the notes passed.
use Rattle.table.proofs.Notes.{Summing}
use Rattle.table.proofs.look.Offers.sum_before.Given as goal

abbrev pub invariant-loop-i : goal.invariant-loop-i
invariant-loop-i l = Summing l.self.turns.now l.self.amounts.now l.x l.self.n l.r l.i
