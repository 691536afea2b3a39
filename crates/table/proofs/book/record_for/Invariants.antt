-- `table::book::record_for` meets its contract: the next record while one is not filled; else at each turn the search from k on gives
-- the whole search's answer.
use mathlib.Core.Bool.{not}
use Prim.Native.Nat.{◌+◌}
use Rattle.octets.proofs.Ranges.{Sought}
use Rattle.matching.specs.Matching.{is_open}
use Rattle.table.specs.Orders.{order_at}
use Rattle.table.proofs.book.record_for.Given as goal

abbrev pub invariant-loop-k : goal.invariant-loop-k
invariant-loop-k l = Sought (λ j. not (is_open (order_at l.t (j + 1)))) 255 l.k
