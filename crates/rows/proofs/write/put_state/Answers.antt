-- `write::put_state` meets its contract: one field after another.
use Rattle.report.proofs.Writing.{ahead_all, ahead_room, ahead_more, ahead_none}
use Rattle.octets.proofs.Runs.{wrote_length}
use Rattle.report.specs.Fields.{field_bytes}
use Rattle.rows.specs.Parts.{state_part}
use Rattle.rows.proofs.write.put_state.Goals as goal

pub put_char-a-requires : goal.put_char-a-requires
unfolding state_part field_bytes
put_char-a-requires c = ahead_room _ _ (ahead_all c.requires.room)

pub put_number-requires : goal.put_number-requires
unfolding state_part field_bytes
put_number-requires c = rw c.open_of-left.ensures (ahead_room _ _ (ahead_more _ _ (ahead_all c.requires.room) c.put_char-a.ensures))

pub returns : goal.returns
unfolding state_part field_bytes
returns c = ahead_none (ahead_more _ _ (ahead_more _ _ (ahead_all c.requires.room) c.put_char-a.ensures) (rw c.open_of-left.ensures at c.put_number.ensures))

pub shape_of-out : goal.shape_of-out
shape_of-out c = wrote_length (returns c)
