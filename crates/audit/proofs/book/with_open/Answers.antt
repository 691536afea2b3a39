-- `audit::with_open` meets its contract.
use Rattle.audit.proofs.Bounds.{open_new, open_same, open_worse}
use Rattle.std.proofs.Common.{rules}
use Rattle.audit.proofs.book.with_open.Goals as goal

pub returns-then-c-ahead : goal.returns-then-c-ahead
returns-then-c-ahead c = search (rules, open_new)

pub returns-then-level-c : goal.returns-then-level-c
returns-then-level-c c = search (rules, open_same)

pub returns : goal.returns
returns c = search (rules, open_worse)
