-- `image::put_image` meets its contract: k blocks are written.
use native.Mathlib.Omega.{arith}
use borrow.Author.Rules.{rules}
use Rattle.image.proofs.Turns.{written_none, written_long}
use Rattle.image.proofs.Wholes.{image_more, image_end}
use Rattle.image.proofs.whole.put_image.Goals as goal

pub loop-k-init : goal.loop-k-init
loop-k-init c = written_none

pub put_block-requires : goal.put_block-requires
put_block-requires c = (omega (arith, written_long c.loop-k.invariant), omega arith, omega arith)

pub loop-k-preserved : goal.loop-k-preserved
loop-k-preserved c = search (rules, image_more)

pub shape_of-image : goal.shape_of-image
shape_of-image c = written_long c.loop-k.invariant

pub returns : goal.returns
returns c = search (rules, image_end)
