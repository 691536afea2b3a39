-- `rows::group_of` meets its contract: one group a market.
use Rattle.rows.specs.Rows.{group}
use Rattle.rows.proofs.group_of.Goals as goal

pub returns-in-Bonds : goal.returns-in-Bonds
unfolding group
returns-in-Bonds c = rw c.in-Bonds.is

pub returns-in-Equities : goal.returns-in-Equities
unfolding group
returns-in-Equities c = rw c.in-Equities.is
