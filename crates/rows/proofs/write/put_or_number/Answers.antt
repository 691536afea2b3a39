-- `write::put_or_number` meets its contract: nothing where the number is 0.
use Rattle.octets.proofs.Runs.{wrote_none, wrote_length}
use borrow.Author.Tests.{eq-eqb, ne_eqb}
use Rattle.report.specs.Fields.{field_bytes}
use Rattle.rows.specs.Rows.{or_number}
use Rattle.rows.proofs.write.put_or_number.Goals as goal

pub returns-then-n-eq0 : goal.returns-then-n-eq0
unfolding or_number field_bytes
returns-then-n-eq0 c = rw (eq-eqb _ 0 c.if-n-eq0.true) (wrote_none _ _)

pub put_number-requires : goal.put_number-requires
unfolding or_number field_bytes
put_number-requires c = rw (ne_eqb c.args.n 0 c.if-n-eq0.false) at c.requires

pub returns : goal.returns
unfolding or_number field_bytes
returns c = rw (ne_eqb c.args.n 0 c.if-n-eq0.false) c.put_number.ensures

pub shape_of-out : goal.shape_of-out
shape_of-out c = wrote_length (returns c)
