-- `audit::id_at` meets its contract.
use Rattle.audit.proofs.Rooms.{id_read}
use Rattle.audit.proofs.marks.id_at.Goals as goal

pub returns : goal.returns
returns c = id_read _ _ _ _ _ _ c.eight_at.ensures c.eight_at-2.ensures c.eight_at-3.ensures c.eight_at-4.ensures
