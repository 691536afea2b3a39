-- `rows::or_nobody` meets its contract.
use Rattle.rows.specs.Rows.{or_nobody}
use borrow.Author.Tests.{eq-eqb, ne_eqb}
use Rattle.rows.proofs.or_nobody.Goals as goal

pub returns-then-n-eq0 : goal.returns-then-n-eq0
unfolding or_nobody
returns-then-n-eq0 c = search (eq-eqb, ne_eqb)

pub returns : goal.returns
unfolding or_nobody
returns c = search (eq-eqb, ne_eqb)
