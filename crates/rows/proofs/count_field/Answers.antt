-- `rows::count_field` meets its contract: one field a market.
use Rattle.rows.specs.Rows.{count_field}
use Rattle.rows.proofs.count_field.Goals as goal

pub returns-in-Bonds : goal.returns-in-Bonds
unfolding count_field
returns-in-Bonds c = rw c.in-Bonds.is

pub returns-in-Equities : goal.returns-in-Equities
unfolding count_field
returns-in-Equities c = rw c.in-Equities.is
