-- `book::program::open_rehearsal` meets its contract: the settings are right.
use borrow.Author.Rules.{rules}
use Rattle.book.proofs.Programs.{rehearsal_opened}
use Rattle.book.proofs.program.open_rehearsal.Goals as goal

pub returns : goal.returns
returns c = search (rules, rehearsal_opened)
