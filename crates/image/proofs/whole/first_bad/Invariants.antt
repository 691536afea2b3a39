-- `image::first_bad` meets its contract: the blocks before k are good.
use Rattle.octets.proofs.Ranges.{Sought}
use Rattle.image.proofs.Wholes.{bad_in}
use Rattle.image.proofs.whole.first_bad.Given as goal

abbrev pub invariant-loop-k : goal.invariant-loop-k
invariant-loop-k l = Sought (bad_in l.image) 65 l.k
