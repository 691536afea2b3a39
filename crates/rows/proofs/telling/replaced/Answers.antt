-- `telling::replaced` meets its contract: field by field.
use Rattle.rows.proofs.telling.replaced.Goals as goal

pub returns : goal.returns
returns c = rw c.replaced_status.ensures
