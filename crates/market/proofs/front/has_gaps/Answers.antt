-- `market::front::has_gaps` meets its contract.
use Rattle.market.specs.Top.{has_gaps}
use Rattle.market.proofs.front.has_gaps.Goals as goal

pub returns : goal.returns
unfolding has_gaps
returns c = cc
