-- `audit::is_side` meets its contract.
use Rattle.audit.proofs.Amounts.{side_both, side_bonds, side_equities}
use Rattle.audit.proofs.sound.is_side.Goals as goal

pub returns-then-side : goal.returns-then-side
returns-then-side c = side_both _ _ c.if-side.true

pub returns-in-Bonds : goal.returns-in-Bonds
returns-in-Bonds c = rw c.in-Bonds.is (side_bonds _ c.if-side.false)

pub returns-in-Equities : goal.returns-in-Equities
returns-in-Equities c = rw c.in-Equities.is (side_equities _ c.if-side.false)
