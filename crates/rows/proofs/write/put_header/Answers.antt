-- `write::put_header` meets its contract: one field after another.
use Rattle.report.proofs.Writing.{ahead_all, ahead_room, ahead_more, ahead_none}
use Rattle.octets.proofs.Runs.{wrote_length}
use Rattle.report.specs.Fields.{field_bytes}
use Rattle.rows.specs.Rows.{group, header}
use Rattle.rows.proofs.write.put_header.Goals as goal

pub put_char-a-requires : goal.put_char-a-requires
unfolding header group field_bytes
put_char-a-requires c = ahead_room _ _ (ahead_all c.requires)

pub put_number-b-requires : goal.put_number-b-requires
unfolding header group field_bytes
put_number-b-requires c = ahead_room _ _ (ahead_more _ _ (ahead_all c.requires) c.put_char-a.ensures)

pub put_as-c-requires : goal.put_as-c-requires
unfolding header group field_bytes
put_as-c-requires c = ahead_room _ _ (ahead_more _ _ (ahead_more _ _ (ahead_all c.requires) c.put_char-a.ensures) c.put_number-b.ensures)

pub put_group-d-requires : goal.put_group-d-requires
unfolding header group field_bytes
put_group-d-requires c = ahead_room _ _ (ahead_more _ _ (ahead_more _ _ (ahead_more _ _ (ahead_all c.requires) c.put_char-a.ensures) c.put_number-b.ensures) c.put_as-c.ensures)

pub put_as-e-requires : goal.put_as-e-requires
unfolding header group field_bytes
put_as-e-requires c = ahead_room _ _ (ahead_more _ _ (ahead_more _ _ (ahead_more _ _ (ahead_more _ _ (ahead_all c.requires) c.put_char-a.ensures) c.put_number-b.ensures) c.put_as-c.ensures) c.put_group-d.ensures)

pub put_as-requires : goal.put_as-requires
unfolding header group field_bytes
put_as-requires c = ahead_room _ _ (ahead_more _ _ (ahead_more _ _ (ahead_more _ _ (ahead_more _ _ (ahead_more _ _ (ahead_all c.requires) c.put_char-a.ensures) c.put_number-b.ensures) c.put_as-c.ensures) c.put_group-d.ensures) c.put_as-e.ensures)

pub returns : goal.returns
unfolding header group field_bytes
returns c = ahead_none (ahead_more _ _ (ahead_more _ _ (ahead_more _ _ (ahead_more _ _ (ahead_more _ _ (ahead_more _ _ (ahead_all c.requires) c.put_char-a.ensures) c.put_number-b.ensures) c.put_as-c.ensures) c.put_group-d.ensures) c.put_as-e.ensures) c.put_as.ensures)

pub shape_of-out : goal.shape_of-out
shape_of-out c = wrote_length (returns c)
