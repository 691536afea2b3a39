-- `audit::is_unseen` meets its contract: unseen tells of the numbers passed.
use Rattle.audit.proofs.Marked.{unseen_none, unseen_more, unseen_end}
use Rattle.audit.proofs.marks.is_unseen.Goals as goal

pub loop-i-init : goal.loop-i-init
loop-i-init c = unseen_none

pub loop-i-preserved : goal.loop-i-preserved
loop-i-preserved c = unseen_more c.loop-i.invariant c.loop-i-test.true

pub returns : goal.returns
returns c = unseen_end c.loop-i.invariant c.loop-i-test.false
