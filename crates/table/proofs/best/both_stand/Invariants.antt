-- `table::best::both_stand` meets its contract: after i records b and s have what the first i add.
use Rattle.table.proofs.Fronts.{Counted}
use Rattle.table.proofs.best.both_stand.Given as goal

abbrev pub invariant-loop-k : goal.invariant-loop-k
invariant-loop-k l = Counted l.t 1 l.buy l.k l.b × Counted l.t 2 l.sell l.k l.s
