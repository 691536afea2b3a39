-- `write::put_execution` meets its contract: one part after another.
use Rattle.report.proofs.Writing.{ahead_all}
use Rattle.octets.proofs.Runs.{wrote_length}
use Rattle.rows.specs.Parts.{upper_part, lower_part, execution_fields}
use Rattle.rows.proofs.Executions.{part_room, part_more, last_room, last_wrote}
use Rattle.rows.proofs.write.put_execution.Goals as goal

pub put_upper-a-requires : goal.put_upper-a-requires
unfolding execution_fields
put_upper-a-requires c = let a = c.args in record { sound = c.requires.sound; room = part_room a.sent.now a.stored.now (upper_part a.s a.o a.v) (lower_part a.s a.o a.v) (ahead_all c.requires.room) }

pub put_lower-requires : goal.put_lower-requires
unfolding execution_fields
put_lower-requires c = let a = c.args in record { covered = c.requires.sound.covered; room = last_room (part_more a.sent.now a.stored.now (upper_part a.s a.o a.v) (lower_part a.s a.o a.v) (ahead_all c.requires.room) c.put_upper-a.ensures) }

pub returns : goal.returns
unfolding execution_fields
returns c = let a = c.args in last_wrote (part_more a.sent.now a.stored.now (upper_part a.s a.o a.v) (lower_part a.s a.o a.v) (ahead_all c.requires.room) c.put_upper-a.ensures) c.put_lower.ensures

pub shape_of-out : goal.shape_of-out
shape_of-out c = wrote_length (returns c)
