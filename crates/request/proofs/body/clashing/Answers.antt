-- A row for each test and the tag that it refuses.
use Rattle.request.proofs.Answers.{clash_minimum, clash_margin, clash_none}
use borrow.Author.Rules.{rules}
use Rattle.request.proofs.body.clashing.Goals as goal

pub returns-then-minimum_clashes : goal.returns-then-minimum_clashes
returns-then-minimum_clashes c = search (rules, clash_minimum)

pub returns-then-margin_clashes : goal.returns-then-margin_clashes
returns-then-margin_clashes c = search (rules, clash_margin)

pub returns : goal.returns
returns c = search (rules, clash_none)
