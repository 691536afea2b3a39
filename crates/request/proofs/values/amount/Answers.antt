-- 1 to `most` digits that do not say 0.
use Rattle.request.proofs.Judging.{amount_zero, amount_is, amount_not}
use borrow.Author.Rules.{rules}
use Rattle.request.proofs.values.amount.Goals as goal

pub returns-in-Some-eq0 : goal.returns-in-Some-eq0
returns-in-Some-eq0 c = search (rules, amount_zero)

pub returns-in-Some : goal.returns-in-Some
returns-in-Some c = search (rules, amount_is)

pub returns-in-None : goal.returns-in-None
returns-in-None c = search (rules, amount_not)
