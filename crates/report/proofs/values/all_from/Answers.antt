-- `values::all_from` meets its contract. The invariant: what is left decides.
use Rattle.report.proofs.Walks.{all_low, all_high, all_on, all_end}
use borrow.Author.Rules.{rules}
use Rattle.report.proofs.values.all_from.Goals as goal

pub returns-then-b-low : goal.returns-then-b-low
returns-then-b-low c = search (rules, all_low)

pub returns-then-b-gt126 : goal.returns-then-b-gt126
returns-then-b-gt126 c = search (rules, all_high)

pub loop-b-preserved : goal.loop-b-preserved
loop-b-preserved c = search (rules, all_on)

pub returns : goal.returns
returns c = search (rules, all_end)
