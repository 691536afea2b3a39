-- `audit::has_names` meets its contract.
use Rattle.audit.proofs.Checked.{names_are}
use Rattle.std.proofs.Common.{rules}
use Rattle.audit.proofs.checks.has_names.Goals as goal

pub returns : goal.returns
returns c = search (rules, names_are)
