-- OrderQty for a Fill or Kill, else MinQty.
use borrow.Author.Tests.{ne_eqb}
use Rattle.matching.specs.Matching.{minimum_of}
use Rattle.matching.proofs.Order.minimum_of.Goals as goal

pub returns-then-self-eq4 : goal.returns-then-self-eq4
unfolding minimum_of
returns-then-self-eq4 c = rw c.if-self-eq4.true

pub returns-else-self-eq4 : goal.returns-else-self-eq4
unfolding minimum_of
returns-else-self-eq4 c = rw (ne_eqb _ _ c.if-self-eq4.false)
