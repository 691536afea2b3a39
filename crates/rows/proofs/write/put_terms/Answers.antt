-- `write::put_terms` meets its contract: one field after another.
use Rattle.report.proofs.Writing.{ahead_all, ahead_room, ahead_more, ahead_none}
use Rattle.octets.proofs.Runs.{wrote_length}
use Rattle.report.specs.Fields.{field_bytes}
use Rattle.rows.specs.Parts.{terms_part}
use Rattle.rows.proofs.write.put_terms.Goals as goal

pub put_number-a-requires : goal.put_number-a-requires
unfolding terms_part field_bytes
put_number-a-requires c = ahead_room _ _ (ahead_all c.requires)

pub put_number-b-requires : goal.put_number-b-requires
unfolding terms_part field_bytes
put_number-b-requires c = ahead_room _ _ (ahead_more _ _ (ahead_all c.requires) c.put_number-a.ensures)

pub put_char-c-requires : goal.put_char-c-requires
unfolding terms_part field_bytes
put_char-c-requires c = ahead_room _ _ (ahead_more _ _ (ahead_more _ _ (ahead_all c.requires) c.put_number-a.ensures) c.put_number-b.ensures)

pub put_char-d-requires : goal.put_char-d-requires
unfolding terms_part field_bytes
put_char-d-requires c = ahead_room _ _ (ahead_more _ _ (ahead_more _ _ (ahead_more _ _ (ahead_all c.requires) c.put_number-a.ensures) c.put_number-b.ensures) c.put_char-c.ensures)

pub put_as-e-requires : goal.put_as-e-requires
unfolding terms_part field_bytes
put_as-e-requires c = ahead_room _ _ (ahead_more _ _ (ahead_more _ _ (ahead_more _ _ (ahead_more _ _ (ahead_all c.requires) c.put_number-a.ensures) c.put_number-b.ensures) c.put_char-c.ensures) c.put_char-d.ensures)

pub put_price-requires : goal.put_price-requires
unfolding terms_part field_bytes
put_price-requires c = ahead_room _ _ (ahead_more _ _ (ahead_more _ _ (ahead_more _ _ (ahead_more _ _ (ahead_more _ _ (ahead_all c.requires) c.put_number-a.ensures) c.put_number-b.ensures) c.put_char-c.ensures) c.put_char-d.ensures) c.put_as-e.ensures)

pub returns : goal.returns
unfolding terms_part field_bytes
returns c = ahead_none (ahead_more _ _ (ahead_more _ _ (ahead_more _ _ (ahead_more _ _ (ahead_more _ _ (ahead_more _ _ (ahead_all c.requires) c.put_number-a.ensures) c.put_number-b.ensures) c.put_char-c.ensures) c.put_char-d.ensures) c.put_as-e.ensures) c.put_price.ensures)

pub shape_of-out : goal.shape_of-out
shape_of-out c = wrote_length (returns c)
