-- The three tests of the definition.
use Rattle.matching.specs.Matching.{faces}
use Rattle.matching.proofs.Order.faces.Goals as goal

pub returns : goal.returns
unfolding faces
returns c = cc
