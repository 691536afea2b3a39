-- The two tests of the definition.
use Rattle.matching.specs.Matching.{opposed}
use Rattle.matching.proofs.Order.opposed.Goals as goal

pub returns : goal.returns
unfolding opposed
returns c = cc
