-- Each side hands on its level and the other's the definition's way round.
use borrow.Author.Rules.{rules}
use borrow.Author.Tests.{eq-eqb, ne_eqb}
use Rattle.matching.specs.Matching.{meets}
use Rattle.matching.proofs.Order.meets.Goals as goal

pub returns-then-self-eq1 : goal.returns-then-self-eq1
unfolding meets
returns-then-self-eq1 c = search (rules, eq-eqb)

pub returns-else-self-eq1 : goal.returns-else-self-eq1
unfolding meets
returns-else-self-eq1 c = search (rules, ne_eqb)
