-- `audit::has_orders` meets its contract: the records passed are orders.
use Rattle.std.proofs.Common.{◌+◌}
use Rattle.octets.proofs.Ranges.{Passed}
use Rattle.table.specs.Market.{is_order}
use Rattle.audit.proofs.sound.has_orders.Given as goal

abbrev pub invariant-loop-k : goal.invariant-loop-k
invariant-loop-k l = Passed (λ j. is_order l.t (j + 1)) l.m l.k
