-- `rows::rejected_row` meets its contract: the row is the table.
use Rattle.decimal.specs.Writing.{mean_of}
use Rattle.rows.specs.Rows.{rejected_row, header}
use Rattle.rows.proofs.rejected_row.Goals as goal

pub returns : goal.returns
unfolding rejected_row header mean_of
returns c = rw (c.group_of-group.ensures, c.text-id.ensures, c.text-code.ensures, c.digit-side.ensures)
