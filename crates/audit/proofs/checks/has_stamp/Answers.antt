-- `audit::has_stamp` meets its contract.
use Rattle.audit.proofs.Checked.{stamp_none, stamp_some}
use Rattle.std.proofs.Common.{rules}
use Rattle.audit.proofs.checks.has_stamp.Goals as goal

pub returns-then-work-eq0 : goal.returns-then-work-eq0
returns-then-work-eq0 c = search (rules, stamp_none)

pub returns : goal.returns
returns c = search (rules, stamp_some)
