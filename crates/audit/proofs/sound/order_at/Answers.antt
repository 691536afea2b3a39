-- `audit::order_at` meets its contract.
use Rattle.audit.proofs.Amounts.{narrow_load}
use Rattle.audit.proofs.sound.order_at.Goals as goal

pub returns : goal.returns
returns c = (c.load.ensures, narrow_load _ _ (λ j. (c.type_inv.t j).fits) c.load.ensures)
