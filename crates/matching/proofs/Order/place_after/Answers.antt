-- The order's own place with the same yield and no greater quantity, else the one given.
use Rattle.matching.specs.Matching.{place_after}
use Rattle.matching.proofs.Order.place_after.Goals as goal

pub returns-then-level-self : goal.returns-then-level-self
unfolding place_after
returns-then-level-self c = rw c.if-level-self.true

pub returns : goal.returns
unfolding place_after
returns c = rw c.if-level-self.false
