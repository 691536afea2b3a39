-- `kinds::kind_read` meets its contract.
use Rattle.kinds.proofs.Standings.{kind_by_fields, kind_stands, kind_refused}
use borrow.Author.Rules.{rules}
use Rattle.kinds.proofs.kind_read.Goals as goal

pub returns-then-is_canceled : goal.returns-then-is_canceled
returns-then-is_canceled c = search (rules, kind_by_fields)

pub returns-then-is_framed : goal.returns-then-is_framed
returns-then-is_framed c = search (rules, kind_stands)

pub returns : goal.returns
returns c = search (rules, kind_refused)
