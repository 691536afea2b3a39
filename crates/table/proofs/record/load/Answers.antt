-- `table::record::load` meets its contract: each field is the byte or the number at its place.
use Rattle.table.specs.Orders.{order_at}
use Rattle.table.proofs.record.load.Goals as goal

pub returns : goal.returns
unfolding order_at
returns c = cc
