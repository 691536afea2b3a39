-- The characters at the front. Invariant: the first i bytes are characters, and took the sum on.
use Rattle.std.proofs.Common.{◌-◌, length}
use Rattle.fix.proofs.Paces.{Running}
use Rattle.fix.proofs.pass.run.Given as goal

abbrev pub invariant-loop-i : goal.invariant-loop-i
invariant-loop-i l = Running l.s l.initial.sum l.sum l.i

abbrev pub decreases-loop-i : goal.decreases-loop-i
decreases-loop-i l = length l.s - l.i
