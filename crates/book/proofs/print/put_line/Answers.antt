-- `book::print::put_line` meets its contract: one writing after another.
use Rattle.octets.proofs.Runs.{room_first, room_then, then, wrote_length}
use Rattle.book.specs.Sheet.{level_line}
use Rattle.book.proofs.print.put_line.Goals as goal

pub put_figure-a-requires : goal.put_figure-a-requires
unfolding level_line
put_figure-a-requires c = room_first _ _ (room_first _ _ (room_first _ _ (room_first _ _ c.requires)))

pub put_level-b-requires : goal.put_level-b-requires
unfolding level_line
put_level-b-requires c = room_then _ (room_first _ _ (room_first _ _ (room_first _ _ c.requires))) c.put_figure-a.ensures

pub put_byte-c-requires : goal.put_byte-c-requires
unfolding level_line
put_byte-c-requires c = room_then _ (room_first _ _ (room_first _ _ c.requires)) (then c.put_figure-a.ensures c.put_level-b.ensures)

pub put_figure-d-requires : goal.put_figure-d-requires
unfolding level_line
put_figure-d-requires c = room_then _ (room_first _ _ c.requires) (then (then c.put_figure-a.ensures c.put_level-b.ensures) c.put_byte-c.ensures)

pub put_figure-requires : goal.put_figure-requires
unfolding level_line
put_figure-requires c = room_then _ c.requires (then (then (then c.put_figure-a.ensures c.put_level-b.ensures) c.put_byte-c.ensures) c.put_figure-d.ensures)

pub returns : goal.returns
unfolding level_line
returns c = then (then (then (then c.put_figure-a.ensures c.put_level-b.ensures) c.put_byte-c.ensures) c.put_figure-d.ensures) c.put_figure.ensures

pub shape_of-out : goal.shape_of-out
shape_of-out c = wrote_length (returns c)
