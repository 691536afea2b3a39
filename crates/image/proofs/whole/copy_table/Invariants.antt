-- `image::copy_table` meets its contract: k pieces are copied.
use Prim.Native.Nat.{◌*◌}
use Rattle.image.proofs.Copies.{Copied}
use Rattle.image.proofs.whole.copy_table.Given as goal

abbrev pub invariant-loop-k : goal.invariant-loop-k
invariant-loop-k l = Copied l.from l.to (4096 * l.k)
