-- `rows::replaced_status` meets its contract.
use Rattle.rows.specs.Rows.{replaced_status}
use borrow.Author.Tests.{eq-eqb, ne_eqb}
use Rattle.rows.proofs.replaced_status.Goals as goal

pub returns-then-o-eq0 : goal.returns-then-o-eq0
unfolding replaced_status
returns-then-o-eq0 c = search (eq-eqb, ne_eqb)

pub returns : goal.returns
unfolding replaced_status
returns c = search (eq-eqb, ne_eqb)
