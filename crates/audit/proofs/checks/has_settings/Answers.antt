-- `audit::has_settings` meets its contract.
use Rattle.table.specs.Market.{has_settings}
use Rattle.audit.proofs.checks.has_settings.Goals as goal

pub returns : goal.returns
unfolding has_settings
returns c = cc
