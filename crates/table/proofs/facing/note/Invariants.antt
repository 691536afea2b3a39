-- `table::facing::note` meets its contract: the turns of the records passed are noted.
use Rattle.table.specs.Orders.{book_of}
use Rattle.table.specs.Faced.{Met}
use Rattle.table.proofs.facing.note.Given as goal

abbrev pub invariant-loop-k : goal.invariant-loop-k
invariant-loop-k l = Met l.o (book_of l.t) l.k l.m l.turns
