-- `standing::behind` meets its contract.
use Rattle.kinds.proofs.Standings.{from_none, from_past, from_yes, from_not}
use Rattle.report.proofs.Parses.{label_fits, value_fits}
use borrow.Author.Rules.{rules}
use Rattle.kinds.proofs.standing.behind.Goals as goal

pub returns-then-at-eq0 : goal.returns-then-at-eq0
returns-then-at-eq0 c = search (rules, from_none)

pub returns-then-at-s : goal.returns-then-at-s
returns-then-at-s c = search (rules, from_past)

pub overflow_add-result : goal.overflow_add-result
overflow_add-result c = search (rules, label_fits)

pub overflow_add-result-then-label_at : goal.overflow_add-result-then-label_at
overflow_add-result-then-label_at c = search (rules, value_fits)

pub returns-then-label_at : goal.returns-then-label_at
returns-then-label_at c = search (rules, from_yes)

pub returns : goal.returns
returns c = search (rules, from_not)
