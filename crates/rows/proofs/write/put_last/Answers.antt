-- `write::put_last` meets its contract: one field after another.
use Rattle.report.proofs.Writing.{ahead_all, ahead_room, ahead_more, ahead_none}
use Rattle.octets.proofs.Runs.{wrote_length}
use Rattle.report.specs.Fields.{field_bytes}
use Rattle.rows.specs.Rows.{digit}
use Rattle.rows.specs.Parts.{last_part}
use Rattle.rows.proofs.write.put_last.Goals as goal

pub put_digit-a-requires : goal.put_digit-a-requires
unfolding last_part digit field_bytes
put_digit-a-requires c = ahead_room _ _ (ahead_all c.requires)

pub put_margin-requires : goal.put_margin-requires
unfolding last_part digit field_bytes
put_margin-requires c = ahead_room _ _ (ahead_more _ _ (ahead_all c.requires) c.put_digit-a.ensures)

pub returns : goal.returns
unfolding last_part digit field_bytes
returns c = ahead_none (ahead_more _ _ (ahead_more _ _ (ahead_all c.requires) c.put_digit-a.ensures) c.put_margin.ensures)

pub shape_of-out : goal.shape_of-out
shape_of-out c = wrote_length (returns c)
