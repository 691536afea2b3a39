-- `audit::is_fresh_id` meets its contract: no record passed has the ClOrdID.
use Rattle.std.proofs.Common.{◌+◌, not}
use Rattle.octets.specs.Octets.{same_bytes}
use Rattle.octets.proofs.Ranges.{Passed}
use Rattle.table.specs.Orders.{cl_ord_id_at}
use Rattle.audit.proofs.marks.is_fresh_id.Given as goal

abbrev pub invariant-loop-i : goal.invariant-loop-i
invariant-loop-i l = Passed (λ k. not (same_bytes (cl_ord_id_at l.t (k + 1)) (cl_ord_id_at l.t (l.j + 1)))) l.j l.i
