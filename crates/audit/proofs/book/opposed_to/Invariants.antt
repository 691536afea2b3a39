-- `audit::opposed_to` meets its contract: c is the number of the records passed that are open and opposite.
use Rattle.audit.proofs.Walked.{Counted}
use Rattle.audit.proofs.book.opposed_to.Given as goal

abbrev pub invariant-loop-k : goal.invariant-loop-k
invariant-loop-k l = Counted l.t l.o l.n l.c l.k
