-- The sum in one byte. Invariant: the sum of the bytes before i.
use Rattle.std.proofs.Common.{rules}
use Rattle.fix.proofs.Sums.{sum_start, sum_more, sum_end}
use Rattle.fix.proofs.frame.checksum.Goals as goal

pub loop-i-init : goal.loop-i-init
loop-i-init c = search (rules, sum_start)

pub loop-i-preserved : goal.loop-i-preserved
loop-i-preserved c = search (rules, sum_more)

pub returns : goal.returns
returns c = search (rules, sum_end)
