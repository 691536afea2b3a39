-- `write::put_upper` meets its contract: one part after another.
use mathlib.Core.List.{◌++◌}
use Rattle.report.proofs.Writing.{ahead_all}
use Rattle.octets.proofs.Runs.{wrote_length}
use Rattle.rows.specs.Rows.{header}
use Rattle.rows.specs.Parts.{first_part, fill_part, terms_part, upper_part}
use Rattle.rows.proofs.Executions.{part_room, part_more, last_room, last_wrote}
use Rattle.rows.proofs.write.put_upper.Goals as goal

pub put_header-a-requires : goal.put_header-a-requires
unfolding upper_part
put_header-a-requires c = let a = c.args in part_room a.sent.now a.stored.now (header 56 a.s) (first_part a.s a.o ++ (fill_part a.s.of a.v.fill ++ terms_part a.s.of a.o a.v.status a.v.orig)) (ahead_all c.requires.room)

pub put_first-b-requires : goal.put_first-b-requires
unfolding upper_part
put_first-b-requires c = let a = c.args in record { sound = c.requires.sound; room = part_room a.sent.now a.stored.now (first_part a.s a.o) (fill_part a.s.of a.v.fill ++ terms_part a.s.of a.o a.v.status a.v.orig) (part_more a.sent.now a.stored.now (header 56 a.s) (first_part a.s a.o ++ (fill_part a.s.of a.v.fill ++ terms_part a.s.of a.o a.v.status a.v.orig)) (ahead_all c.requires.room) c.put_header-a.ensures) }

pub put_fill-c-requires : goal.put_fill-c-requires
unfolding upper_part
put_fill-c-requires c = let a = c.args in part_room a.sent.now a.stored.now (fill_part a.s.of a.v.fill) (terms_part a.s.of a.o a.v.status a.v.orig) (part_more a.sent.now a.stored.now (first_part a.s a.o) (fill_part a.s.of a.v.fill ++ terms_part a.s.of a.o a.v.status a.v.orig) (part_more a.sent.now a.stored.now (header 56 a.s) (first_part a.s a.o ++ (fill_part a.s.of a.v.fill ++ terms_part a.s.of a.o a.v.status a.v.orig)) (ahead_all c.requires.room) c.put_header-a.ensures) c.put_first-b.ensures)

pub put_terms-requires : goal.put_terms-requires
unfolding upper_part
put_terms-requires c = let a = c.args in last_room (part_more a.sent.now a.stored.now (fill_part a.s.of a.v.fill) (terms_part a.s.of a.o a.v.status a.v.orig) (part_more a.sent.now a.stored.now (first_part a.s a.o) (fill_part a.s.of a.v.fill ++ terms_part a.s.of a.o a.v.status a.v.orig) (part_more a.sent.now a.stored.now (header 56 a.s) (first_part a.s a.o ++ (fill_part a.s.of a.v.fill ++ terms_part a.s.of a.o a.v.status a.v.orig)) (ahead_all c.requires.room) c.put_header-a.ensures) c.put_first-b.ensures) c.put_fill-c.ensures)

pub returns : goal.returns
unfolding upper_part
returns c = let a = c.args in last_wrote (part_more a.sent.now a.stored.now (fill_part a.s.of a.v.fill) (terms_part a.s.of a.o a.v.status a.v.orig) (part_more a.sent.now a.stored.now (first_part a.s a.o) (fill_part a.s.of a.v.fill ++ terms_part a.s.of a.o a.v.status a.v.orig) (part_more a.sent.now a.stored.now (header 56 a.s) (first_part a.s a.o ++ (fill_part a.s.of a.v.fill ++ terms_part a.s.of a.o a.v.status a.v.orig)) (ahead_all c.requires.room) c.put_header-a.ensures) c.put_first-b.ensures) c.put_fill-c.ensures) c.put_terms.ensures

pub shape_of-out : goal.shape_of-out
shape_of-out c = wrote_length (returns c)
