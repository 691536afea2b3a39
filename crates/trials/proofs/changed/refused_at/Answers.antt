-- `changes::refused_at`. Invariant: k counts the values below b.
use borrow.Author.Rules.{rules}
use Rattle.trials.proofs.Counting.{at_first, at_on, at_few, at_fits, at_end}
use Rattle.trials.proofs.changed.refused_at.Goals as goal

pub loop-b-init : goal.loop-b-init
loop-b-init c = search (rules, at_first)

pub overflow_add-k : goal.overflow_add-k
overflow_add-k c = search (rules, at_fits)

pub loop-b-preserved : goal.loop-b-preserved
loop-b-preserved c = (search (rules, at_on), search (rules, at_few))

pub returns : goal.returns
returns c = search (rules, at_end)
