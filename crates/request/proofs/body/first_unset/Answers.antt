-- The first tag with nothing in the row. Invariant: it is the first from i on.
use Rattle.request.proofs.Answers.{unset_here, unset_more, unset_none}
use borrow.Author.Rules.{rules}
use Rattle.request.proofs.body.first_unset.Goals as goal

pub returns-then-not-has : goal.returns-then-not-has
returns-then-not-has c = search (rules, unset_here)

pub loop-t-preserved : goal.loop-t-preserved
loop-t-preserved c = search (rules, unset_more)

pub returns : goal.returns
returns c = search (rules, unset_none)
