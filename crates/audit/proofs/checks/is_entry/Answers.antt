-- `audit::is_entry` meets its contract.
use Rattle.table.specs.Market.{is_entry}
use Rattle.audit.proofs.checks.is_entry.Goals as goal

pub returns : goal.returns
unfolding is_entry
returns c = cc
