-- `audit::ends_list` meets its contract: from entry n up to entry k there is nothing.
use Rattle.std.proofs.Common.{rules}
use Rattle.audit.proofs.Checked.{ending_none, ending_more, ending_stop, ending_end}
use Rattle.audit.proofs.checks.ends_list.Goals as goal

pub loop-k-init : goal.loop-k-init
loop-k-init c = search (rules, ending_none)

pub returns-then-mpid_at-mode_at-ne0 : goal.returns-then-mpid_at-mode_at-ne0
returns-then-mpid_at-mode_at-ne0 c = search (rules, ending_stop)

pub loop-k-preserved : goal.loop-k-preserved
loop-k-preserved c = search (rules, ending_more)

pub returns : goal.returns
returns c = search (rules, ending_end)
