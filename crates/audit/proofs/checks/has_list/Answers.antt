-- `audit::has_list` meets its contract.
use Rattle.audit.proofs.Amounts.{list_is}
use Rattle.std.proofs.Common.{rules}
use Rattle.audit.proofs.checks.has_list.Goals as goal

pub returns : goal.returns
returns c = search (rules, list_is)
