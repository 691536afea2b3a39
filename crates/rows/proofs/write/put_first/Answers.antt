-- `write::put_first` meets its contract: one field after another.
use Rattle.report.proofs.Writing.{ahead_all, ahead_room, ahead_more, ahead_none}
use Rattle.octets.proofs.Runs.{wrote_length}
use Rattle.report.specs.Fields.{field_bytes}
use Rattle.rows.specs.Parts.{first_part}
use Rattle.rows.proofs.write.put_first.Goals as goal

pub put_as-a-requires : goal.put_as-a-requires
unfolding first_part field_bytes
put_as-a-requires c = ahead_room _ _ (ahead_all c.requires.room)

pub put_average-b-requires : goal.put_average-b-requires
unfolding first_part field_bytes
put_average-b-requires c = rw c.avg_px-mean.ensures (ahead_room _ _ (ahead_more _ _ (ahead_all c.requires.room) c.put_as-a.ensures))

pub put_as-c-requires : goal.put_as-c-requires
unfolding first_part field_bytes
put_as-c-requires c = ahead_room _ _ (ahead_more _ _ (ahead_more _ _ (ahead_all c.requires.room) c.put_as-a.ensures) (rw c.avg_px-mean.ensures at c.put_average-b.ensures))

pub put_number-d-requires : goal.put_number-d-requires
unfolding first_part field_bytes
put_number-d-requires c = ahead_room _ _ (ahead_more _ _ (ahead_more _ _ (ahead_more _ _ (ahead_all c.requires.room) c.put_as-a.ensures) (rw c.avg_px-mean.ensures at c.put_average-b.ensures)) c.put_as-c.ensures)

pub put_number-e-requires : goal.put_number-e-requires
unfolding first_part field_bytes
put_number-e-requires c = ahead_room _ _ (ahead_more _ _ (ahead_more _ _ (ahead_more _ _ (ahead_more _ _ (ahead_all c.requires.room) c.put_as-a.ensures) (rw c.avg_px-mean.ensures at c.put_average-b.ensures)) c.put_as-c.ensures) c.put_number-d.ensures)

pub put_char-requires : goal.put_char-requires
unfolding first_part field_bytes
put_char-requires c = ahead_room _ _ (ahead_more _ _ (ahead_more _ _ (ahead_more _ _ (ahead_more _ _ (ahead_more _ _ (ahead_all c.requires.room) c.put_as-a.ensures) (rw c.avg_px-mean.ensures at c.put_average-b.ensures)) c.put_as-c.ensures) c.put_number-d.ensures) c.put_number-e.ensures)

pub returns : goal.returns
unfolding first_part field_bytes
returns c = ahead_none (ahead_more _ _ (ahead_more _ _ (ahead_more _ _ (ahead_more _ _ (ahead_more _ _ (ahead_more _ _ (ahead_all c.requires.room) c.put_as-a.ensures) (rw c.avg_px-mean.ensures at c.put_average-b.ensures)) c.put_as-c.ensures) c.put_number-d.ensures) c.put_number-e.ensures) c.put_char.ensures)

pub shape_of-out : goal.shape_of-out
shape_of-out c = wrote_length (returns c)
