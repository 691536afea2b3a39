-- `write::put_own` meets its contract: one field a market.
use Rattle.octets.proofs.Runs.{wrote_length}
use Rattle.report.specs.Fields.{field_bytes}
use Rattle.rows.specs.Rows.{digit, own_field}
use Rattle.rows.proofs.write.put_own.Goals as goal

pub put_number-requires : goal.put_number-requires
unfolding own_field field_bytes
put_number-requires c = rw c.in-Bonds.is at c.requires

pub put_digit-requires : goal.put_digit-requires
unfolding own_field digit field_bytes
put_digit-requires c = rw c.in-Equities.is at c.requires

pub returns-in-Bonds : goal.returns-in-Bonds
unfolding own_field field_bytes
returns-in-Bonds c = rw c.in-Bonds.is c.put_number.ensures

pub shape_of-out-in-Bonds : goal.shape_of-out-in-Bonds
shape_of-out-in-Bonds c = wrote_length (returns-in-Bonds c)

pub returns-in-Equities : goal.returns-in-Equities
unfolding own_field digit field_bytes
returns-in-Equities c = rw c.in-Equities.is c.put_digit.ensures

pub shape_of-out-in-Equities : goal.shape_of-out-in-Equities
shape_of-out-in-Equities c = wrote_length (returns-in-Equities c)
