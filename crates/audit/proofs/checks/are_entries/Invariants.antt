-- `audit::are_entries` meets its contract: the entries passed are good.
use Rattle.octets.proofs.Ranges.{Passed}
use Rattle.table.specs.Market.{is_entry}
use Rattle.audit.proofs.checks.are_entries.Given as goal

abbrev pub invariant-loop-k : goal.invariant-loop-k
invariant-loop-k l = Passed (is_entry l.t) l.n l.k
