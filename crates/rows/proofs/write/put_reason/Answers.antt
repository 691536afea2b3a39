-- `write::put_reason` meets its contract: one field after another.
use Rattle.report.proofs.Writing.{ahead_all, ahead_room, ahead_more, ahead_none}
use Rattle.octets.proofs.Runs.{wrote_length}
use Rattle.rows.specs.Parts.{reason_part}
use Rattle.rows.proofs.write.put_reason.Goals as goal

pub put_as-a-requires : goal.put_as-a-requires
unfolding reason_part
put_as-a-requires c = ahead_room _ _ (ahead_all c.requires)

pub put_own-requires : goal.put_own-requires
unfolding reason_part
put_own-requires c = ahead_room _ _ (ahead_more _ _ (ahead_all c.requires) c.put_as-a.ensures)

pub returns : goal.returns
unfolding reason_part
returns c = ahead_none (ahead_more _ _ (ahead_more _ _ (ahead_all c.requires) c.put_as-a.ensures) c.put_own.ensures)

pub shape_of-out : goal.shape_of-out
shape_of-out c = wrote_length (returns c)
