-- `audit::is_marked` meets its contract.
use Rattle.std.proofs.Common.{rules}
use Rattle.audit.proofs.Amounts.{marked_not_capacity, marked_not_class, marked_is}
use Rattle.audit.proofs.sound.is_marked.Goals as goal

pub returns-then-not-capacity : goal.returns-then-not-capacity
returns-then-not-capacity c = search (rules, marked_not_capacity)

pub returns-then-not-class : goal.returns-then-not-class
returns-then-not-class c = search (rules, marked_not_class)

pub returns : goal.returns
returns c = search (rules, marked_is)
