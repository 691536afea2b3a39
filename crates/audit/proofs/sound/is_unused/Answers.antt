-- `audit::is_unused` meets its contract.
use Rattle.std.proofs.Common.{rules}
use Rattle.audit.proofs.Checked.{unused_not, unused_is}
use Rattle.audit.proofs.sound.is_unused.Goals as goal

pub returns-then-not-all_zero : goal.returns-then-not-all_zero
returns-then-not-all_zero c = search (rules, unused_not)

pub returns : goal.returns
returns c = search (rules, unused_is)
