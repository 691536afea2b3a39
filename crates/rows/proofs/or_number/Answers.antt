-- `rows::or_number` meets its contract.
use Rattle.rows.specs.Rows.{or_number}
use borrow.Author.Tests.{eq-eqb, ne_eqb}
use Rattle.rows.proofs.or_number.Goals as goal

pub returns-then-n-eq0 : goal.returns-then-n-eq0
unfolding or_number
returns-then-n-eq0 c = search (eq-eqb, ne_eqb)

pub returns : goal.returns
unfolding or_number
returns c = search (eq-eqb, ne_eqb)
