-- `write::put_places` meets its contract. The invariant: what is still to be written, i digits of m, gives the whole.
use Rattle.decimal.proofs.Digits.{Left}
use Rattle.decimal.proofs.write.put_places.Given as goal

abbrev pub invariant-loop-i : goal.invariant-loop-i
invariant-loop-i l = Left l.initial.out l.at l.k l.n l.i l.m l.out

abbrev pub decreases-loop-i : goal.decreases-loop-i
decreases-loop-i l = l.i
