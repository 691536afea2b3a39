-- Each side compares the two levels the definition's way round.
use borrow.Author.Rules.{rules}
use borrow.Author.Tests.{eq-eqb, ne_eqb}
use Rattle.matching.proofs.ahead.Goals as goal

pub returns-then-side-eq1 : goal.returns-then-side-eq1
returns-then-side-eq1 c = search (rules, eq-eqb)

pub returns-else-side-eq1 : goal.returns-else-side-eq1
returns-else-side-eq1 c = search (rules, ne_eqb)
