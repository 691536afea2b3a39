-- `write::put_others` meets its contract: one field after another, of a trade of bonds alone.
use Rattle.report.proofs.Writing.{ahead_all, ahead_room, ahead_more, ahead_none}
use Rattle.octets.proofs.Runs.{wrote_none, wrote_length}
use Rattle.report.specs.Fields.{field_bytes}
use Rattle.rows.specs.Rows.{other_field, count_field}
use Rattle.rows.specs.Parts.{others_part}
use Rattle.rows.proofs.write.put_others.Goals as goal

pub returns-in_default : goal.returns-in_default
unfolding others_part
returns-in_default c = rw c.in_default.is (wrote_none _ _)

pub put_number-a-requires : goal.put_number-a-requires
unfolding others_part other_field count_field field_bytes
put_number-a-requires c = ahead_room _ _ (ahead_all (rw c.in-Bonds.is at (rw c.in-Some.is at c.requires)))

pub put_number-requires : goal.put_number-requires
unfolding others_part other_field count_field field_bytes
put_number-requires c = ahead_room _ _ (ahead_more _ _ (ahead_all (rw c.in-Bonds.is at (rw c.in-Some.is at c.requires))) c.put_number-a.ensures)

pub returns-in-Bonds : goal.returns-in-Bonds
unfolding others_part other_field count_field field_bytes
returns-in-Bonds c = rw c.in-Some.is (rw c.in-Bonds.is (ahead_none (ahead_more _ _ (ahead_more _ _ (ahead_all (rw c.in-Bonds.is at (rw c.in-Some.is at c.requires))) c.put_number-a.ensures) c.put_number.ensures)))

pub shape_of-out : goal.shape_of-out
shape_of-out c = wrote_length (returns-in-Bonds c)

pub returns-in-Equities : goal.returns-in-Equities
unfolding others_part other_field count_field field_bytes
returns-in-Equities c = rw c.in-Some.is (rw c.in-Equities.is (wrote_none _ _))
