-- `table::opening::are_given` meets its contract: the lists are of one length, and every entry looked at is good.
use mathlib.Core.Path.{◌≡◌}
use mathlib.Core.Bool.{true}
use lib.ListN.{length}
use Rattle.octets.proofs.Ranges.{Passed}
use Rattle.table.specs.Opened.{is_given}
use Rattle.table.proofs.Settings.{counts}
use Rattle.table.proofs.opening.are_given.Given as goal

abbrev pub invariant-loop-k : goal.invariant-loop-k
invariant-loop-k l = (l.n ≡ length l.mpids) × (counts l.mpids l.modes ≡ true) × Passed (is_given l.mpids l.modes) (length l.mpids) l.k
