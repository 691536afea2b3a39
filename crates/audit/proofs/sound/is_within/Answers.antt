-- `audit::is_within` meets its contract.
use Rattle.table.specs.Market.{is_within}
use Rattle.audit.proofs.sound.is_within.Goals as goal

pub returns : goal.returns
unfolding is_within
returns c = rw c.used.ensures.0
