-- `image::copy_piece` meets its contract: the table is copied up to byte j of the piece.
use Prim.Native.Nat.{◌+◌}
use Rattle.image.proofs.Copies.{Copied}
use Rattle.image.proofs.whole.copy_piece.Given as goal

abbrev pub invariant-loop-j : goal.invariant-loop-j
invariant-loop-j l = Copied l.from l.to (l.p + l.j)
