-- `audit::is_known` meets its contract: none of the places passed has the MPID, or it is found.
use Rattle.std.proofs.Common.{rules}
use Rattle.audit.proofs.Amounts.{looked_none, looked_more, looked_end}
use Rattle.audit.proofs.sound.is_known.Goals as goal

pub loop-k-init : goal.loop-k-init
loop-k-init c = search (rules, looked_none)

pub loop-k-preserved : goal.loop-k-preserved
loop-k-preserved c = search (rules, looked_more)

pub returns : goal.returns
returns c = search (rules, looked_end)
