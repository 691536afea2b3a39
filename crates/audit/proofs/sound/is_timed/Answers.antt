-- `audit::is_timed` meets its contract.
use Rattle.audit.proofs.Amounts.{timed_ioc, timed_day, timed_other}
use Rattle.std.proofs.Common.{rules}
use Rattle.audit.proofs.sound.is_timed.Goals as goal

pub returns-then-o-eq3 : goal.returns-then-o-eq3
returns-then-o-eq3 c = search (rules, timed_ioc)

pub returns-then-o-eq0 : goal.returns-then-o-eq0
returns-then-o-eq0 c = search (rules, timed_day)

pub returns : goal.returns
returns c = search (rules, timed_other)
