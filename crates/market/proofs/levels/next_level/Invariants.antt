-- `market::levels::next_level` meets its contract: after i records the candidate is the next level of the first i.
use mathlib.Core.Path.{◌≡◌}
use Rattle.matching.specs.Depth.{next}
use Rattle.table.specs.Orders.{book_of}
use Rattle.market.proofs.levels.next_level.Given as goal

abbrev pub invariant-loop-i : goal.invariant-loop-i
invariant-loop-i l = l.c ≡ next (book_of l.t) l.side l.x l.i
