-- `book::take::take_line` meets its contract: the message of the line is submitted, then run.
use borrow.Author.Rules.{rules}
use Rattle.book.proofs.Messages.{line_table, line_area}
use Rattle.book.proofs.take.take_line.Goals as goal

pub returns : goal.returns
returns c = (search (rules, line_table), search (rules, line_area))
