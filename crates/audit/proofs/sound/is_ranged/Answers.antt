-- `audit::is_ranged` meets its contract.
use Rattle.std.proofs.Common.{rules}
use Rattle.audit.proofs.Amounts.{ranged_not_side, ranged_not_timed, ranged_is}
use Rattle.audit.proofs.sound.is_ranged.Goals as goal

pub returns-then-not-is_side : goal.returns-then-not-is_side
returns-then-not-is_side c = search (rules, ranged_not_side)

pub returns-then-not-is_timed : goal.returns-then-not-is_timed
returns-then-not-is_timed c = search (rules, ranged_not_timed)

pub returns : goal.returns
returns c = search (rules, ranged_is)
