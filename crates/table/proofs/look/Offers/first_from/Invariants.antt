-- `table::look::Offers::first_from` meets its contract: r is the first of the turns passed that is not before x.
use Rattle.table.specs.Looks.{Clear}
use Rattle.table.proofs.look.Offers.first_from.Given as goal

abbrev pub invariant-loop-i : goal.invariant-loop-i
invariant-loop-i l = Clear l.self.turns.now l.i l.x l.r
