-- `audit::has_next` meets its contract.
use Rattle.table.specs.Market.{has_next}
use Rattle.audit.proofs.checks.has_next.Goals as goal

pub returns : goal.returns
unfolding has_next
returns c = rw c.next-n.ensures
