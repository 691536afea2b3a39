-- `write::digits` meets its contract. The invariant: k digits are counted, and those of m are not yet.
use Rattle.decimal.proofs.Digits.{Counted}
use Rattle.decimal.proofs.write.digits.Given as goal

abbrev pub invariant-loop-m : goal.invariant-loop-m
invariant-loop-m l = Counted l.n l.k l.m

abbrev pub decreases-loop-m : goal.decreases-loop-m
decreases-loop-m l = l.m
