-- `write::put_margin` meets its contract: no field of bonds, and of equities one where there is a number.
use Rattle.octets.proofs.Runs.{wrote_none, wrote_length}
use borrow.Author.Tests.{eq-eqb, ne_eqb}
use Rattle.report.specs.Fields.{field_bytes}
use Rattle.rows.specs.Rows.{digit, or_digit, last_field}
use Rattle.rows.proofs.write.put_margin.Goals as goal

pub returns-then-o-eq0 : goal.returns-then-o-eq0
unfolding last_field or_digit digit field_bytes
returns-then-o-eq0 c = rw c.in-Equities.is (rw (eq-eqb _ 0 c.if-o-eq0.true) (wrote_none _ _))

pub put_digit-requires : goal.put_digit-requires
unfolding last_field or_digit digit field_bytes
put_digit-requires c = rw (ne_eqb c.args.o.margin 0 c.if-o-eq0.false) at (rw c.in-Equities.is at c.requires)

pub returns-in-Bonds : goal.returns-in-Bonds
unfolding last_field or_digit digit field_bytes
returns-in-Bonds c = rw c.in-Bonds.is (wrote_none _ _)

pub returns-else-o-eq0 : goal.returns-else-o-eq0
unfolding last_field or_digit digit field_bytes
returns-else-o-eq0 c = rw c.in-Equities.is (rw (ne_eqb c.args.o.margin 0 c.if-o-eq0.false) c.put_digit.ensures)

pub shape_of-out : goal.shape_of-out
shape_of-out c = wrote_length (returns-else-o-eq0 c)
