-- `table::ids::find_id` meets its contract: at each turn the search from k on gives the whole search's answer.
use Prim.Native.Nat.{◌+◌}
use Rattle.octets.specs.Octets.{same_bytes}
use Rattle.table.specs.Orders.{cl_ord_id_at}
use Rattle.octets.proofs.Ranges.{Sought}
use Rattle.table.proofs.ids.find_id.Given as goal

abbrev pub invariant-loop-k : goal.invariant-loop-k
invariant-loop-k l = Sought (λ j. same_bytes (cl_ord_id_at l.t (j + 1)) l.m) l.n l.k
