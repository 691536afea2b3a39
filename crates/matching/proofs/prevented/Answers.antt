-- Mode 1, mode 2, any other.
use borrow.Author.Rules.{rules}
use borrow.Author.Tests.{eq-eqb, ne_eqb}
use Rattle.matching.specs.Matching.{prevention}
use Rattle.matching.proofs.prevented.Goals as goal

pub returns-in-1 : goal.returns-in-1
unfolding prevention
returns-in-1 c = search (rules, eq-eqb)

pub returns-in-2 : goal.returns-in-2
unfolding prevention
returns-in-2 c = rw c.in-2.is

pub returns-in_default : goal.returns-in_default
unfolding prevention
returns-in_default c = search (rules, ne_eqb)
