-- `audit::ends_list` meets its contract: from entry n up to entry k there is nothing.
use Rattle.audit.proofs.Checked.{Ending}
use Rattle.audit.proofs.checks.ends_list.Given as goal

abbrev pub invariant-loop-k : goal.invariant-loop-k
invariant-loop-k l = Ending l.t l.n l.k
