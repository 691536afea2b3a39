-- `table::look::Offers::last_before` meets its contract: r is behind the last of the turns passed that is before x.
use Rattle.table.specs.Looks.{Clear}
use Rattle.table.proofs.look.Offers.last_before.Given as goal

abbrev pub invariant-loop-i : goal.invariant-loop-i
invariant-loop-i l = Clear l.self.turns.now l.i l.r l.x
