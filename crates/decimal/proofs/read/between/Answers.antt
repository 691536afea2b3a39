-- Each byte between its bounds: what was tested so far holds exactly if the test holds at every place so far.
use Rattle.decimal.proofs.Times.{gathered_none, gathered_more, gathered_end}
use Rattle.decimal.proofs.read.between.Goals as goal

pub loop-i-init : goal.loop-i-init
loop-i-init c = gathered_none

pub loop-i-preserved : goal.loop-i-preserved
loop-i-preserved c = gathered_more c.loop-i.invariant c.loop-i-test.true

pub returns : goal.returns
returns c = gathered_end c.loop-i.invariant c.loop-i-test.false
