-- `image::put_image` meets its contract: k blocks are written.
use Rattle.image.specs.Image.{block_of}
use Rattle.image.proofs.Turns.{Written}
use Rattle.image.proofs.whole.put_image.Given as goal

abbrev pub invariant-loop-k : goal.invariant-loop-k
invariant-loop-k l = Written l.initial.image (block_of l.table) l.image l.k
