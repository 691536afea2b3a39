-- `parse::place_of` meets its contract. The invariant: from where the search stands on, the label is as far as it was.
use Rattle.report.proofs.Walks.{sought_first, sought_here, sought_end, sought_on, sought_less}
use borrow.Author.Rules.{rules}
use Rattle.report.proofs.parse.place_of.Goals as goal

pub loop-at-init : goal.loop-at-init
loop-at-init c = sought_first _ _

pub returns-then-label_at : goal.returns-then-label_at
returns-then-label_at c = search (rules, sought_here)

pub loop-at-smaller : goal.loop-at-smaller
loop-at-smaller c = search (rules, sought_less)

pub loop-at-preserved : goal.loop-at-preserved
loop-at-preserved c = search (rules, sought_on)

pub returns : goal.returns
returns c = search (rules, sought_end)
