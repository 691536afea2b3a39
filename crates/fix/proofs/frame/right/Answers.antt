-- The values of the header.
use Rattle.fix.specs.Steps.{right_of}
use Rattle.fix.proofs.frame.right.Goals as goal

pub returns : goal.returns
unfolding right_of
returns c = cc
