-- `audit::is_account` meets its contract.
use Rattle.std.proofs.Common.{refl}
use Rattle.audit.proofs.Checked.{text_empty}
use Rattle.audit.proofs.sound.is_account.Goals as goal

pub returns-then-t-p-eq0 : goal.returns-then-t-p-eq0
returns-then-t-p-eq0 c = text_empty _ _ _ _ _ _ refl c.if-t-p-eq0.true c.is_empty.ensures
