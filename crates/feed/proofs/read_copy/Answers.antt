-- `read_copy` meets its contract: the slots' reader with the slots of a copy.
use borrow.Author.Rules.{rules}
use Rattle.feed.proofs.Answers.{read_copy_is}
use Rattle.feed.proofs.read_copy.Goals as goal

pub returns : goal.returns
returns c = search (rules, read_copy_is)
