-- `rows::cancel_reject_row` meets its contract: the row is the table.
use Rattle.rows.specs.Rows.{cancel_reject_row, header}
use Rattle.rows.proofs.cancel_reject_row.Goals as goal

pub returns : goal.returns
unfolding cancel_reject_row header
returns c = rw (c.group_of-group.ensures, c.text-id.ensures, c.or_nobody-order.ensures, c.digit-status.ensures, c.text-orig.ensures)
