-- `rows::trade_status` meets its contract.
use mathlib.Core.Path.{sym}
use Rattle.rows.specs.Rows.{trade_status}
use borrow.Author.Tests.{eq-eqb, ne_eqb}
use Rattle.rows.proofs.trade_status.Goals as goal

pub returns-then-open_of-eq0 : goal.returns-then-open_of-eq0
unfolding trade_status
returns-then-open_of-eq0 c = rw (sym c.open_of.ensures) (search (eq-eqb, ne_eqb))

pub returns : goal.returns
unfolding trade_status
returns c = rw (sym c.open_of.ensures) (search (eq-eqb, ne_eqb))
