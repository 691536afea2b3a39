-- `table::record::marks_at` meets its contract: each mark is the byte at its place.
use Rattle.table.specs.Orders.{marks_at}
use Rattle.table.proofs.record.marks_at.Goals as goal

pub returns : goal.returns
unfolding marks_at
returns c = cc
