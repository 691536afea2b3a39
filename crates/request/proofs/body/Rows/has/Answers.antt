-- A length in the row.
use Rattle.request.proofs.Answers.{has_is}
use borrow.Author.Rules.{rules}
use Rattle.request.proofs.body.Rows.has.Goals as goal

pub returns : goal.returns
returns c = search (rules, has_is)
