-- `audit::is_cash` meets its contract.
use Rattle.std.proofs.Common.{refl}
use Rattle.table.specs.Market.{is_cash}
use Rattle.audit.proofs.sound.is_cash.Goals as goal

pub returns : goal.returns
unfolding is_cash
returns c = refl
