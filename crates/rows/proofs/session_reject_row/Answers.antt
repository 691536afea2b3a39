-- `rows::session_reject_row` meets its contract: the row is the table.
use Rattle.rows.specs.Rows.{session_reject_row, header}
use Rattle.rows.proofs.session_reject_row.Goals as goal

pub returns : goal.returns
unfolding session_reject_row header
returns c = rw (c.group_of-group.ensures, c.text-kind.ensures)
