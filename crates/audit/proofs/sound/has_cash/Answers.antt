-- `audit::has_cash` meets its contract.
use Rattle.audit.proofs.Checked.{cash_bonds, cash_equities}
use Rattle.std.proofs.Common.{◌*◌, refl, arith}
use Rattle.audit.proofs.sound.has_cash.Goals as goal

pub returns-in-Bonds : goal.returns-in-Bonds
returns-in-Bonds c = rw c.in-Bonds.is (cash_bonds _ _ _ _ refl (omega arith) c.zeros_at.ensures)

pub returns-in-Equities : goal.returns-in-Equities
returns-in-Equities c =
    let a = c.args in
    rw c.in-Equities.is
    (cash_equities a.t.now (128 * a.i) _ _ _ _ refl c.wide.ensures.0 c.wide-in-Equities.ensures.0 c.is_cash.ensures)
