-- `book::take::take_bytes` meets its contract: so many bytes of the part are read.
use Rattle.book.proofs.Readings.{Going}
use Rattle.book.proofs.take.take_bytes.Given as goal

abbrev pub invariant-loop-c : goal.invariant-loop-c
invariant-loop-c l = Going l.q l.initial.t l.initial.line l.held l.part l.t l.line l.area l.n l.c-index
