-- 1 to `most` digits.
use Rattle.request.proofs.Judging.{digits_is, digits_not}
use borrow.Author.Rules.{rules}
use Rattle.request.proofs.values.digits.Goals as goal

pub returns-in-Some : goal.returns-in-Some
returns-in-Some c = search (rules, digits_is)

pub returns-in-None : goal.returns-in-None
returns-in-None c = search (rules, digits_not)
