-- `rows::status_of` meets its contract: one answer a test.
use mathlib.Core.Path.{sym}
use Rattle.rows.specs.Rows.{status_of}
use borrow.Author.Tests.{lt-ltb, le-ltb, eq-eqb, ne_eqb}
use Rattle.rows.proofs.status_of.Goals as goal

pub returns-then-o-gt0 : goal.returns-then-o-gt0
unfolding status_of
returns-then-o-gt0 c = search (lt-ltb, le-ltb, eq-eqb, ne_eqb)

pub returns-then-open_of-eq0 : goal.returns-then-open_of-eq0
unfolding status_of
returns-then-open_of-eq0 c = rw (sym c.open_of.ensures) (search (lt-ltb, le-ltb, eq-eqb, ne_eqb))

pub returns-then-o-gt0-2 : goal.returns-then-o-gt0-2
unfolding status_of
returns-then-o-gt0-2 c = rw (sym c.open_of.ensures) (search (lt-ltb, le-ltb, eq-eqb, ne_eqb))

pub returns : goal.returns
unfolding status_of
returns c = rw (sym c.open_of.ensures) (search (lt-ltb, le-ltb, eq-eqb, ne_eqb))
