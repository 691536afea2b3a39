-- The two tests of the definition.
use mathlib.Core.Path.{refl}
use Rattle.matching.specs.Matching.{same_owner}
use Rattle.matching.proofs.Order.same_owner.Goals as goal

pub returns : goal.returns
unfolding same_owner
returns c = refl
