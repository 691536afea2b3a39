-- `audit::has_decision` meets its contract.
use Rattle.audit.proofs.Walked.{decision_none, decision_idle, decision_past, decision_is}
use Rattle.std.proofs.Common.{rules}
use Rattle.audit.proofs.book.has_decision.Goals as goal

pub returns-then-d-eq0 : goal.returns-then-d-eq0
returns-then-d-eq0 c = search (rules, decision_none)

pub returns-then-w-eq0 : goal.returns-then-w-eq0
returns-then-w-eq0 c = search (rules, decision_idle)

pub returns-then-n-w : goal.returns-then-n-w
returns-then-n-w c = search (rules, decision_past)

pub returns : goal.returns
returns c = search (rules, decision_is)
