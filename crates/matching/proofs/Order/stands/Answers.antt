-- The two tests of the definition.
use Rattle.matching.specs.Depth.{stands}
use Rattle.matching.proofs.Order.stands.Goals as goal

pub returns : goal.returns
unfolding stands
returns c = cc
