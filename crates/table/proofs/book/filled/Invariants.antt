-- `table::book::filled` meets its contract: at each turn the search from k on gives the whole search's answer.
use Prim.Native.Nat.{◌+◌}
use Rattle.table.specs.Orders.{is_free}
use Rattle.octets.proofs.Ranges.{Sought}
use Rattle.table.proofs.book.filled.Given as goal

abbrev pub invariant-loop-k : goal.invariant-loop-k
invariant-loop-k l = Sought (λ j. is_free l.t (j + 1)) 255 l.k
