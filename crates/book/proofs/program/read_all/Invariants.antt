-- `book::program::read_all` meets its contract: what came so far, and then the next part.
use Rattle.book.proofs.Programs.{Sofar}
use Rattle.book.proofs.program.read_all.Given as goal

abbrev pub invariant-loop : goal.invariant-loop
invariant-loop g l = Sofar l.q l.initial.t l.initial.line l.t l.line l.area l.held
