-- `audit::has_kind` meets its contract.
use Rattle.table.specs.Market.{has_kind}
use Rattle.audit.proofs.checks.has_kind.Goals as goal

pub returns : goal.returns
unfolding has_kind
returns c = cc
