-- `telling::traded` meets its contract: field by field.
use Rattle.rows.proofs.telling.traded.Goals as goal

pub returns : goal.returns
returns c = rw c.trade_status.ensures
