-- `audit::zeros_at` meets its contract.
use Rattle.audit.proofs.Checked.{zeros_read}
use Rattle.std.proofs.Common.{rules}
use Rattle.audit.proofs.checks.zeros_at.Goals as goal

pub returns : goal.returns
returns c = search (rules, zeros_read)
