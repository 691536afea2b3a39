-- `image::read_image` meets its contract: k blocks are read.
use Rattle.image.specs.Image.{kept_in}
use Rattle.image.proofs.Turns.{Written}
use Rattle.image.proofs.whole.read_image.Given as goal

abbrev pub invariant-loop-k : goal.invariant-loop-k
invariant-loop-k l = Written l.initial.t (kept_in l.image) l.t l.k
