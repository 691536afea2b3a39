-- `book::print::put_side` meets its contract: after so many turns the lines of as many levels are written, and x is the level behind them.
use Rattle.book.proofs.Lines.{Going}
use Rattle.book.proofs.print.put_side.Given as goal

abbrev pub invariant-loop : goal.invariant-loop
invariant-loop l = Going l.q l.t l.n l.initial.out l.at l.side l.out l.next l.x l.counter
