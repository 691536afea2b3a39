-- `rows::last_field` meets its contract: one field a market.
use Rattle.rows.specs.Rows.{last_field}
use Rattle.rows.proofs.last_field.Goals as goal

pub returns-in-Bonds : goal.returns-in-Bonds
unfolding last_field
returns-in-Bonds c = rw c.in-Bonds.is

pub returns-in-Equities : goal.returns-in-Equities
unfolding last_field
returns-in-Equities c = rw (c.in-Equities.is, c.or_digit.ensures)
