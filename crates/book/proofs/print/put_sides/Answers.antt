-- `book::print::put_sides` meets its contract: one side after the other.
use borrow.Author.Rules.{rules}
use Rattle.octets.proofs.Runs.{wrote_length}
use Rattle.book.proofs.Sheets.{second_room, both_wrote}
use Rattle.book.proofs.print.put_sides.Goals as goal

pub put_side-requires : goal.put_side-requires
put_side-requires c = search (rules, second_room)

pub returns : goal.returns
returns c = search (rules, both_wrote)

pub shape_of-out : goal.shape_of-out
shape_of-out c = wrote_length (returns c)
