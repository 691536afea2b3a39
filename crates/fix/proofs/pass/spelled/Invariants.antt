-- The tag at the front. Invariant: the first i bytes are digits, at most four, say n, and took the sum on; b is the byte behind them.
use Rattle.std.proofs.Common.{◌-◌, length}
use Rattle.fix.proofs.Paces.{Spelling}
use Rattle.fix.proofs.pass.spelled.Given as goal

abbrev pub invariant-loop-first : goal.invariant-loop-first
invariant-loop-first l = Spelling l.s l.initial.sum l.sum l.first l.b l.n l.i

abbrev pub decreases-loop-first : goal.decreases-loop-first
decreases-loop-first l = length l.s - l.i
