-- `table::best::stands_on` meets its contract: after i records b has what the first i add.
use Rattle.table.proofs.Fronts.{Counted}
use Rattle.table.proofs.best.stands_on.Given as goal

abbrev pub invariant-loop-k : goal.invariant-loop-k
invariant-loop-k l = Counted l.t l.side l.level l.k l.b
