-- 110 against 59 and 38.
use Rattle.request.proofs.Answers.{minimum_is}
use borrow.Author.Rules.{rules}
use Rattle.request.proofs.body.minimum_clashes.Goals as goal

pub returns : goal.returns
returns c = search (rules, minimum_is)
