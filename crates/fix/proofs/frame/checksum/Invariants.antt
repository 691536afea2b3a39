-- The sum in one byte. Invariant: the sum of the bytes before i.
use Rattle.std.proofs.Common.{◌-◌, length}
use Rattle.fix.proofs.Sums.{Summing}
use Rattle.fix.proofs.frame.checksum.Given as goal

abbrev pub invariant-loop-i : goal.invariant-loop-i
invariant-loop-i l = Summing l.s l.sum l.i

abbrev pub decreases-loop-i : goal.decreases-loop-i
decreases-loop-i l = length l.s - l.i
