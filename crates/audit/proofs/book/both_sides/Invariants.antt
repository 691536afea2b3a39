-- `audit::both_sides` meets its contract: s is both sides of the records passed, apart from order w.
use Rattle.audit.proofs.Walked.{Swept}
use Rattle.audit.proofs.book.both_sides.Given as goal

abbrev pub invariant-loop-k : goal.invariant-loop-k
invariant-loop-k l = Swept l.t l.w l.n l.s l.k
