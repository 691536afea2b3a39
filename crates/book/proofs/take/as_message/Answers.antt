-- `book::take::as_message` meets its contract: the first i characters are changed, and changing the rest gives the message.
use borrow.Author.Rules.{rules}
use Rattle.book.proofs.Messages.{changed_one, changed_all}
use Rattle.book.proofs.take.as_message.Goals as goal

pub loop-c-preserved : goal.loop-c-preserved
loop-c-preserved c = search (rules, changed_one)

pub returns : goal.returns
returns c = search (rules, changed_all)
