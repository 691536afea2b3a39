-- `read::body_at` meets its contract.
use Rattle.report.proofs.Frames.{body_yes, body_none, body_not, ten_within}
use borrow.Author.Rules.{rules}
use Rattle.report.proofs.read.body_at.Goals as goal

pub length_at-requires : goal.length_at-requires
length_at-requires c = search (rules, ten_within)

pub returns-in_err-got : goal.returns-in_err-got
returns-in_err-got c = search (rules, body_none, c.in_err-got.was)

pub returns-then-same : goal.returns-then-same
returns-then-same c = search (rules, body_yes)

pub returns : goal.returns
returns c = search (rules, body_not)
