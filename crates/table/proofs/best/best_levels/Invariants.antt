-- `table::best::best_levels` meets its contract: after i records each is the best level of the first i.
use mathlib.Core.Path.{◌≡◌}
use Rattle.matching.specs.Depth.{next}
use Rattle.table.specs.Orders.{book_of}
use Rattle.table.proofs.best.best_levels.Given as goal

abbrev pub invariant-loop-k : goal.invariant-loop-k
invariant-loop-k l = (l.buy ≡ next (book_of l.t) 1 0 l.k) × (l.sell ≡ next (book_of l.t) 2 0 l.k)
