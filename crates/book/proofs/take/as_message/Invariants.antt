-- `book::take::as_message` meets its contract: the first characters are changed, and changing the rest gives the message.
use Rattle.book.proofs.Messages.{Changed}
use Rattle.book.proofs.take.as_message.Given as goal

abbrev pub invariant-loop-c : goal.invariant-loop-c
invariant-loop-c l = Changed l.initial.line l.line l.c-index
