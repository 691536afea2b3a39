-- The number that the digits say. Invariant: the first i digits say n.
use Rattle.decimal.proofs.Numbers.{Digits}
use Rattle.decimal.proofs.read.number.Given as goal

abbrev pub invariant-loop-b : goal.invariant-loop-b
invariant-loop-b l = Digits l.s l.n l.b-index
