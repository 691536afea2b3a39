-- `octets::all_zero` meets its contract: the bytes tested are zero, and the rest is, exactly if the whole is.
use Rattle.octets.proofs.Zeros.{Gathered}
use Rattle.octets.proofs.zero.all_zero.Given as goal

abbrev pub invariant-loop-x : goal.invariant-loop-x
invariant-loop-x l = Gathered l.t l.zero l.x-index
