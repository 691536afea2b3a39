-- `parse::label_at` meets its contract. The invariant: what is still to be compared, i digits of m, decides.
use Rattle.report.proofs.Labels.{label_short, label_other, label_start, two_fits, two_sum, two_is, match_more, match_not, match_end}
use borrow.Author.Rules.{rules}
use Rattle.report.proofs.parse.label_at.Goals as goal

pub returns-then-s-at : goal.returns-then-s-at
returns-then-s-at c = search (rules, label_short)

pub returns-then-s-at-ne61 : goal.returns-then-s-at-ne61
returns-then-s-at-ne61 c = search (rules, label_other)

pub overflow_cast-result : goal.overflow_cast-result
overflow_cast-result c = search (rules, two_fits)

pub overflow_add-result : goal.overflow_add-result
overflow_add-result c = search (rules, two_sum)

pub returns-then-k-eq2 : goal.returns-then-k-eq2
returns-then-k-eq2 c = search (rules, two_is)

pub loop-i-init : goal.loop-i-init
loop-i-init c = search (rules, label_start)

pub returns-then-s-at-2 : goal.returns-then-s-at-2
returns-then-s-at-2 c = search (rules, match_not)

pub loop-i-preserved : goal.loop-i-preserved
loop-i-preserved c = search (rules, match_more)

pub returns : goal.returns
returns c = search (rules, match_end)
