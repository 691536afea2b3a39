-- `audit::is_fresh_mpid` meets its contract: no entry passed has the MPID.
use Rattle.std.proofs.Common.{not, eqb}
use Rattle.octets.proofs.Ranges.{Passed}
use Rattle.table.specs.Heading.{mpid_at}
use Rattle.audit.proofs.checks.is_fresh_mpid.Given as goal

abbrev pub invariant-loop-j : goal.invariant-loop-j
invariant-loop-j l = Passed (λ i. not (eqb (mpid_at l.t i) (mpid_at l.t l.k))) l.k l.j
