-- `audit::is_empty` meets its contract.
use Rattle.audit.proofs.Checked.{empty_not, empty_is}
use Rattle.std.proofs.Common.{rules}
use Rattle.audit.proofs.sound.is_empty.Goals as goal

pub returns-then-four_at-ne0 : goal.returns-then-four_at-ne0
returns-then-four_at-ne0 c = search (rules, empty_not)

pub returns : goal.returns
returns c = search (rules, empty_is)
