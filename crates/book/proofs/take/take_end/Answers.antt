-- `book::take::take_end` meets its contract: a line that is held is taken.
use borrow.Author.Rules.{rules}
use Rattle.book.proofs.Readings.{end_none, end_some}
use Rattle.book.proofs.take.take_end.Goals as goal

pub returns-then-held-gt0 : goal.returns-then-held-gt0
returns-then-held-gt0 c = search (rules, end_some)

pub returns-else-held-gt0 : goal.returns-else-held-gt0
returns-else-held-gt0 c = search (rules, end_none)
