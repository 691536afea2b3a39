-- `image::read_image` meets its contract: k blocks are read.
use native.Mathlib.Omega.{arith}
use borrow.Author.Rules.{rules}
use Rattle.image.proofs.Turns.{written_none, written_long}
use Rattle.image.proofs.Wholes.{table_more, table_end}
use Rattle.image.proofs.whole.read_image.Goals as goal

pub loop-k-init : goal.loop-k-init
loop-k-init c = written_none

pub read_block-requires : goal.read_block-requires
read_block-requires c = (omega (arith, written_long c.loop-k.invariant), omega arith, omega arith)

pub loop-k-preserved : goal.loop-k-preserved
loop-k-preserved c = search (rules, table_more)

pub shape_of-t : goal.shape_of-t
shape_of-t c = written_long c.loop-k.invariant

pub returns : goal.returns
returns c = search (rules, table_end)
