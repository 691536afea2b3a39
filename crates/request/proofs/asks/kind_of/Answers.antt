-- D, G, F or another.
use Rattle.request.proofs.Answers.{kind_new, kind_replacement, kind_cancel, kind_unknown}
use borrow.Author.Rules.{rules}
use Rattle.request.proofs.asks.kind_of.Goals as goal

pub returns-then-same : goal.returns-then-same
returns-then-same c = search (rules, kind_new)

pub returns-then-same-2 : goal.returns-then-same-2
returns-then-same-2 c = search (rules, kind_replacement)

pub returns-then-same-3 : goal.returns-then-same-3
returns-then-same-3 c = search (rules, kind_cancel)

pub returns : goal.returns
returns c = search (rules, kind_unknown)
