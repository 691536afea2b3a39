-- `table::look::note` meets its contract: of the records passed those that o meets are noted.
use Rattle.table.specs.Orders.{book_of}
use Rattle.table.specs.Looks.{Noted}
use Rattle.table.proofs.look.note.Given as goal

abbrev pub invariant-loop-k : goal.invariant-loop-k
invariant-loop-k l = Noted l.next l.o (book_of l.t) l.k l.m l.turns l.all l.others
