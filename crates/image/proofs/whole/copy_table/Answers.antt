-- `image::copy_table` meets its contract: k pieces are copied.
use native.Mathlib.Omega.{arith}
use Rattle.image.proofs.Copies.{copied_none, copied_more, copied_end}
use Rattle.image.proofs.whole.copy_table.Goals as goal

pub loop-k-init : goal.loop-k-init
loop-k-init c = copied_none _ _ (omega arith)

pub copy_piece-requires : goal.copy_piece-requires
copy_piece-requires c =
    let done = c.loop-k.invariant in
    (done.long, omega arith, omega arith, done.front)

pub loop-k-preserved : goal.loop-k-preserved
loop-k-preserved c = copied_more _ _ _ (omega arith) (omega arith) c.copy_piece.ensures

pub shape_of-to : goal.shape_of-to
shape_of-to c = omega (arith, c.loop-k.invariant.long)

pub returns : goal.returns
returns c = copied_end _ c.loop-k.invariant (omega arith) (omega arith)
