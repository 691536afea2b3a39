-- `table::look::Offers::reach` meets its contract: what q reaches to lies in the window.
use Prim.Native.Nat.{◌-◌}
use Rattle.table.specs.Looks.{Between}
use Rattle.table.proofs.look.Offers.reach.Given as goal

abbrev pub invariant-loop-w : goal.invariant-loop-w
invariant-loop-w l = Between l.self.turns.now l.self.amounts.now l.self.n l.q l.w.low l.w.high

abbrev pub decreases-loop-w : goal.decreases-loop-w
decreases-loop-w l = l.w.high - l.w.low
