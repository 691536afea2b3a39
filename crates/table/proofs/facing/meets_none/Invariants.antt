-- `table::facing::meets_none` meets its contract: there is no best order among the records passed.
use mathlib.Core.Path.{◌≡◌}
use Rattle.matching.specs.Matching.{best}
use Rattle.table.specs.Orders.{book_of}
use Rattle.table.proofs.facing.meets_none.Given as goal

abbrev pub invariant-loop-k : goal.invariant-loop-k
invariant-loop-k l = (best (book_of l.t) l.o l.k ≡ 0)
