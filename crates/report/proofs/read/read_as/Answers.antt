-- `read::read_as` meets its contract: the frame, the CheckSum, and the fields that fill it.
use Rattle.report.proofs.Frames.{from_within, end_within, end_fits, frame_not, sum_not, row_none, row_read, row_not}
use borrow.Author.Rules.{rules}
use Rattle.report.proofs.read.read_as.Goals as goal

pub returns-in_default : goal.returns-in_default
returns-in_default c = search (rules, frame_not)

pub overflow_add-end : goal.overflow_add-end
overflow_add-end c = search (rules, end_fits)

pub trailer_at-requires : goal.trailer_at-requires
trailer_at-requires c = search (rules, end_within)

pub returns-then-not-trailer_at : goal.returns-then-not-trailer_at
returns-then-not-trailer_at c = search (rules, sum_not)

pub read_row-requires : goal.read_row-requires
read_row-requires c = search (rules, from_within)

pub returns-in_default-read_row : goal.returns-in_default-read_row
returns-in_default-read_row c = search (rules, row_none, c.in_default-read_row.ensures)

pub returns-then-row-end : goal.returns-then-row-end
returns-then-row-end c = search (rules, row_read, c.in-Some-read_row.ensures)

pub returns : goal.returns
returns c = row_not _ _ _ c.in-Some.body (search rules) _ c.trailer_at.ensures (search rules) _ c.in-Some-read_row.ensures _ c.agrees.ensures c.if-row-end.false _ c.nothing-2.ensures
