-- What 1 to `most` digits say. Invariant: the first i bytes are digits and say n.
use Rattle.decimal.proofs.Numbers.{Tried}
use Rattle.decimal.proofs.read.read_number.Given as goal

abbrev pub invariant-loop-b : goal.invariant-loop-b
invariant-loop-b l = Tried l.s l.n l.b-index
