-- `audit::is_book` meets its contract.
use Rattle.audit.proofs.Walked.{book_is}
use Rattle.audit.proofs.book.is_book.Goals as goal

pub returns : goal.returns
returns c = book_is _ _ _ _ c.requires.1 c.requires.6 c.requires.5 c.both_sides-s.ensures _ _ _ _ c.requires.4 c.has_places.ensures c.has_numbers.ensures c.has_best.ensures
