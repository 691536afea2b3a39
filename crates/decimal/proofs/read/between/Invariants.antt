-- Each byte between its bounds: what was tested so far holds exactly if the test holds at every place so far.
use mathlib.Core.Bool.{◌&&◌}
use lib.Dec.{leb}
use lib.ListN.{length, get_or}
use Rattle.decimal.proofs.Times.{Gathered}
use Rattle.decimal.proofs.read.between.Given as goal

abbrev pub invariant-loop-i : goal.invariant-loop-i
invariant-loop-i l = Gathered (λ k. leb (get_or l.least k 0) (get_or l.s k 0) && leb (get_or l.s k 0) (get_or l.most k 0)) (length l.least) l.good l.i
