-- `image::copy_piece` meets its contract: the table is copied up to byte j of the piece.
use native.Mathlib.Omega.{arith}
use borrow.Author.Rules.{rules}
use Rattle.image.proofs.Copies.{piece_none, piece_more, piece_end}
use Rattle.image.proofs.whole.copy_piece.Goals as goal

pub loop-j-init : goal.loop-j-init
loop-j-init c = piece_none _ _ _ (omega arith) (omega arith) (search rules)

pub bounds-to-p : goal.bounds-to-p
bounds-to-p c = omega (arith, c.loop-j.invariant.long)

pub loop-j-preserved : goal.loop-j-preserved
loop-j-preserved c = piece_more _ _ c.loop-j.invariant (omega arith) (omega arith)

pub shape_of-to : goal.shape_of-to
shape_of-to c = omega (arith, c.loop-j.invariant.long)

pub returns : goal.returns
returns c = piece_end _ _ c.loop-j.invariant (omega arith) (omega arith)
