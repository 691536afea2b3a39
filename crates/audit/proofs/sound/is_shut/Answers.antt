-- `audit::is_shut` meets its contract.
use Rattle.table.specs.Market.{is_shut}
use Rattle.audit.proofs.Amounts.{shut_used}
use Rattle.audit.proofs.sound.is_shut.Goals as goal

pub returns : goal.returns
unfolding is_shut
returns c = rw (c.used.ensures.0, shut_used)
