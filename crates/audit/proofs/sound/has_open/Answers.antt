-- `audit::has_open` meets its contract.
use Rattle.table.proofs.Loaded.{open_used}
use Rattle.audit.proofs.sound.has_open.Goals as goal

pub returns : goal.returns
returns c = rw c.used.ensures.0 (open_used _)
