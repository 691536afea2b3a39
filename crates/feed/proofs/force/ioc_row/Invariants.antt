-- `force::ioc_row` meets its contract. The invariant: what is still to do gives the end.
use Rattle.feed.specs.Rows.{ioc_field}
use Rattle.feed.proofs.Shown.{Changing}
use Rattle.feed.proofs.force.ioc_row.Given as goal

abbrev pub invariant-loop-i : goal.invariant-loop-i
invariant-loop-i l = Changing (ioc_field l.quantity) l.initial.row l.row l.i
