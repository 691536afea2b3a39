-- `audit::opposed_to` meets its contract: c is the number of the records passed that are open and opposite.
use Rattle.std.proofs.Common.{arith}
use Rattle.audit.proofs.Walked.{counted_none, counted_more, counted_end}
use Rattle.audit.proofs.book.opposed_to.Goals as goal

pub loop-k-init : goal.loop-k-init
loop-k-init c = counted_none

pub loop-k-preserved : goal.loop-k-preserved
loop-k-preserved c = counted_more _ _ c.loop-k.invariant c.requires.1 c.loop-k-test.true c.order_at.ensures.0 c.count_with-c.ensures

pub returns : goal.returns
returns c = (counted_end c.loop-k.invariant c.loop-k-test.false, omega arith)
