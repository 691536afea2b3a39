-- `changes::refused`: what a reading comes to.
use borrow.Author.Rules.{rules}
use Rattle.trials.proofs.Counting.{refused_yes, refused_no}
use Rattle.trials.proofs.changed.refused.Goals as goal

pub returns-then-none : goal.returns-then-none
returns-then-none c = search (rules, refused_yes)

pub returns : goal.returns
returns c = search (rules, refused_no)
