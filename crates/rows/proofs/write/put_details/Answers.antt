-- `write::put_details` meets its contract: one field after another.
use Rattle.report.proofs.Writing.{ahead_all, ahead_room, ahead_more, ahead_none}
use Rattle.octets.proofs.Runs.{wrote_length}
use Rattle.report.specs.Fields.{field_bytes}
use Rattle.rows.specs.Rows.{digit}
use Rattle.rows.specs.Parts.{details_part}
use Rattle.rows.proofs.write.put_details.Goals as goal

pub put_char-a-requires : goal.put_char-a-requires
unfolding details_part digit field_bytes
put_char-a-requires c = ahead_room _ _ (ahead_all c.requires)

pub put_digit-b-requires : goal.put_digit-b-requires
unfolding details_part digit field_bytes
put_digit-b-requires c = ahead_room _ _ (ahead_more _ _ (ahead_all c.requires) c.put_char-a.ensures)

pub put_as-c-requires : goal.put_as-c-requires
unfolding details_part digit field_bytes
put_as-c-requires c = ahead_room _ _ (ahead_more _ _ (ahead_more _ _ (ahead_all c.requires) c.put_char-a.ensures) c.put_digit-b.ensures)

pub put_digit-d-requires : goal.put_digit-d-requires
unfolding details_part digit field_bytes
put_digit-d-requires c = ahead_room _ _ (ahead_more _ _ (ahead_more _ _ (ahead_more _ _ (ahead_all c.requires) c.put_char-a.ensures) c.put_digit-b.ensures) c.put_as-c.ensures)

pub put_as-e-requires : goal.put_as-e-requires
unfolding details_part digit field_bytes
put_as-e-requires c = ahead_room _ _ (ahead_more _ _ (ahead_more _ _ (ahead_more _ _ (ahead_more _ _ (ahead_all c.requires) c.put_char-a.ensures) c.put_digit-b.ensures) c.put_as-c.ensures) c.put_digit-d.ensures)

pub put_or_number-f-requires : goal.put_or_number-f-requires
unfolding details_part digit field_bytes
put_or_number-f-requires c = ahead_room _ _ (ahead_more _ _ (ahead_more _ _ (ahead_more _ _ (ahead_more _ _ (ahead_more _ _ (ahead_all c.requires) c.put_char-a.ensures) c.put_digit-b.ensures) c.put_as-c.ensures) c.put_digit-d.ensures) c.put_as-e.ensures)

pub put_or_number-requires : goal.put_or_number-requires
unfolding details_part digit field_bytes
put_or_number-requires c = ahead_room _ _ (ahead_more _ _ (ahead_more _ _ (ahead_more _ _ (ahead_more _ _ (ahead_more _ _ (ahead_more _ _ (ahead_all c.requires) c.put_char-a.ensures) c.put_digit-b.ensures) c.put_as-c.ensures) c.put_digit-d.ensures) c.put_as-e.ensures) c.put_or_number-f.ensures)

pub returns : goal.returns
unfolding details_part digit field_bytes
returns c = ahead_none (ahead_more _ _ (ahead_more _ _ (ahead_more _ _ (ahead_more _ _ (ahead_more _ _ (ahead_more _ _ (ahead_more _ _ (ahead_all c.requires) c.put_char-a.ensures) c.put_digit-b.ensures) c.put_as-c.ensures) c.put_digit-d.ensures) c.put_as-e.ensures) c.put_or_number-f.ensures) c.put_or_number.ensures)

pub shape_of-out : goal.shape_of-out
shape_of-out c = wrote_length (returns c)
