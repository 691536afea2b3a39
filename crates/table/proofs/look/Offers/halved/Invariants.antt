-- `table::look::Offers::halved` meets its contract: what is left of the window is no larger.
use Prim.Native.Nat.{◌-◌, ◌≤◌}
use Rattle.table.specs.Looks.{Between}
use Rattle.table.proofs.look.Offers.halved.Given as goal

abbrev pub invariant-loop : goal.invariant-loop
invariant-loop l = Between l.self.turns.now l.self.amounts.now l.self.n l.q l.v.low l.v.high × (l.v.high - l.v.low ≤ l.initial.v.high - l.initial.v.low)
