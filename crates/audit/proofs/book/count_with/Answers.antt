-- `audit::count_with` meets its contract.
use Rattle.audit.proofs.Walked.{count_yes, count_no}
use Rattle.audit.proofs.book.count_with.Goals as goal

pub returns-then-has_open-opposite : goal.returns-then-has_open-opposite
returns-then-has_open-opposite c = count_yes _ _ _ _ _ c.has_open.ensures c.opposite.ensures c.if-has_open-opposite.true

pub returns-else-has_open-opposite : goal.returns-else-has_open-opposite
returns-else-has_open-opposite c = count_no _ _ _ _ _ c.has_open.ensures c.opposite.ensures c.if-has_open-opposite.false
