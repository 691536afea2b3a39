-- `write::put_group` meets its contract: the tag, the word, SOH.
use Rattle.octets.proofs.Runs.{room_first, room_then, then, wrote_length}
use Rattle.report.specs.Fields.{written}
use Rattle.rows.proofs.write.put_group.Goals as goal

pub put_label-a-requires : goal.put_label-a-requires
unfolding written
put_label-a-requires c = room_first _ _ (room_first _ _ c.requires)

pub put_value-b-requires : goal.put_value-b-requires
unfolding written
put_value-b-requires c = rw c.group_of-value.ensures (room_then _ (room_first _ _ c.requires) c.put_label-a.ensures)

pub put_byte-requires : goal.put_byte-requires
unfolding written
put_byte-requires c = room_then _ c.requires (then c.put_label-a.ensures (rw c.group_of-value.ensures at c.put_value-b.ensures))

pub returns : goal.returns
unfolding written
returns c = then (then c.put_label-a.ensures (rw c.group_of-value.ensures at c.put_value-b.ensures)) c.put_byte.ensures

pub shape_of-out : goal.shape_of-out
shape_of-out c = wrote_length (returns c)
