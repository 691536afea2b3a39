-- Level 0, or a better level.
use Rattle.matching.specs.Depth.{behind}
use Rattle.matching.proofs.behind.Goals as goal

pub returns : goal.returns
unfolding behind
returns c = cc
