-- `image::column` meets its contract: the rows from r on are added up.
use Rattle.image.proofs.Columned.{Rows}
use Rattle.image.proofs.weigh.column.Given as goal

abbrev pub invariant-loop-r : goal.invariant-loop-r
invariant-loop-r l = Rows l.t l.p l.sum l.turned l.r
