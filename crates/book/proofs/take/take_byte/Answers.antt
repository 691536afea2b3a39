-- `book::take::take_byte` meets its contract: the byte ends the line, is one too many, or is held.
use borrow.Author.Rules.{rules}
use Rattle.book.proofs.Readings.{byte_ends, byte_past, byte_held}
use Rattle.book.proofs.take.take_byte.Goals as goal

pub returns-then-c-eq10 : goal.returns-then-c-eq10
returns-then-c-eq10 c = search (rules, byte_ends)

pub returns-then-held-eq1025 : goal.returns-then-held-eq1025
returns-then-held-eq1025 c = search (rules, byte_past)

pub returns : goal.returns
returns c = search (rules, byte_held)
