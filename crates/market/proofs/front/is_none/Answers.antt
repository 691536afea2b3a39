-- `market::front::is_none` meets its contract.
use Rattle.market.specs.Top.{is_none}
use mathlib.Core.Path.{refl}
use Rattle.market.proofs.front.is_none.Goals as goal

pub returns : goal.returns
unfolding is_none
returns c = refl
