-- `members::take_apart` meets its contract: the members that are left, written behind those that are, give the whole.
use Rattle.members.proofs.Going.{Going}
use Rattle.members.proofs.take_apart.Given as goal

abbrev pub invariant-loop-k : goal.invariant-loop-k
invariant-loop-k l = Going l.members l.mpids l.modes l.k
