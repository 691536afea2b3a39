-- `book::program::book` meets its contract: what came is taken to its end, and the sheet is that of its lines.
use Rattle.book.proofs.Programs.{printed}
use Rattle.book.proofs.program.book.Goals as goal

pub returns : goal.returns
returns g c = printed c.open_rehearsal.ensures c.read_all-held.ensures.0 c.take_end.ensures c.requires c.write_sheet.ensures
