-- `octets::all_zero` meets its contract: the bytes tested are zero, and the rest is, exactly if the whole is.
use Rattle.octets.proofs.Zeros.{gathered_more, gathered_end}
use Rattle.octets.proofs.zero.all_zero.Goals as goal

pub loop-x-preserved : goal.loop-x-preserved
loop-x-preserved c = gathered_more c.loop-x.invariant c.loop-x-test.true

pub returns : goal.returns
returns c = gathered_end c.loop-x.invariant c.loop-x-test.false
