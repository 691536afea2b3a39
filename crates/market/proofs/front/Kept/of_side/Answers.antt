-- `market::front::Kept::of_side` meets its contract.
use borrow.Author.Tests.{eq-eqb, ne_eqb}
use Rattle.market.proofs.front.Kept.of_side.Goals as goal

pub returns-then-side-eq1 : goal.returns-then-side-eq1
returns-then-side-eq1 c = rw (eq-eqb _ _ c.if-side-eq1.true)

pub returns-else-side-eq1 : goal.returns-else-side-eq1
returns-else-side-eq1 c = rw (ne_eqb _ _ c.if-side-eq1.false)
