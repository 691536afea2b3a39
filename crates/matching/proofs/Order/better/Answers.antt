-- By place at one level, else by the level.
use borrow.Author.Rules.{rules}
use borrow.Author.Tests.{eq-eqb, ne_eqb}
use Rattle.matching.specs.Matching.{better}
use Rattle.matching.proofs.Order.better.Goals as goal

pub returns-then-self-other : goal.returns-then-self-other
unfolding better
returns-then-self-other c = search (rules, eq-eqb)

pub returns-else-self-other : goal.returns-else-self-other
unfolding better
returns-else-self-other c = search (rules, ne_eqb)
