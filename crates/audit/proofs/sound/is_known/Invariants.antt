-- `audit::is_known` meets its contract: none of the places passed has the MPID, or it is found.
use Rattle.audit.proofs.Amounts.{Looked}
use Rattle.audit.proofs.sound.is_known.Given as goal

abbrev pub invariant-loop-k : goal.invariant-loop-k
invariant-loop-k l = Looked l.t l.m l.n l.found l.k
