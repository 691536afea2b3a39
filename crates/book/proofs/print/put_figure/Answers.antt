-- `book::print::put_figure` meets its contract: a number, then the character.
use Rattle.octets.proofs.Runs.{room_first, room_then, then, wrote_length}
use Rattle.book.specs.Sheet.{figure}
use Rattle.book.proofs.print.put_figure.Goals as goal

pub put_decimal-a-requires : goal.put_decimal-a-requires
unfolding figure
put_decimal-a-requires c = room_first _ _ c.requires

pub put_byte-requires : goal.put_byte-requires
unfolding figure
put_byte-requires c = room_then _ c.requires c.put_decimal-a.ensures

pub returns : goal.returns
unfolding figure
returns c = then c.put_decimal-a.ensures c.put_byte.ensures

pub shape_of-out : goal.shape_of-out
shape_of-out c = wrote_length (returns c)
