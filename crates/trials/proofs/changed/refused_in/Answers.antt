-- `changes::refused_in`. Invariant: k counts the changes at the places below i.
use borrow.Author.Rules.{rules}
use Rattle.trials.proofs.Counting.{in_first, in_on, in_few, in_fits, in_end}
use Rattle.trials.proofs.changed.refused_in.Goals as goal

pub loop-i-init : goal.loop-i-init
loop-i-init c = search (rules, in_first)

pub overflow_add-k : goal.overflow_add-k
overflow_add-k c = search (rules, in_fits)

pub loop-i-preserved : goal.loop-i-preserved
loop-i-preserved c = (search (rules, in_on), search (rules, in_few))

pub returns : goal.returns
returns c = search (rules, in_end)
