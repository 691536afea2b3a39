-- `audit::has_work` meets its contract.
use Rattle.audit.proofs.Checked.{work_is}
use Rattle.std.proofs.Common.{rules}
use Rattle.audit.proofs.checks.has_work.Goals as goal

pub returns : goal.returns
returns c = search (rules, work_is)
