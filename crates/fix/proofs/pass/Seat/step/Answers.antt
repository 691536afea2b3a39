-- The three numbers of the field, or the end.
use Rattle.fix.proofs.Rows.{seat_end, seat_good}
use Rattle.std.proofs.Common.{rules}
use Rattle.fix.proofs.pass.Seat.step.Goals as goal

pub returns-then-tag-eq10 : goal.returns-then-tag-eq10
returns-then-tag-eq10 c = search (rules, seat_end)

pub returns : goal.returns
returns c = search (rules, seat_good)
