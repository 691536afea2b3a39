-- `samples::kill` meets its contract: it is a sound order.
use mathlib.Core.Path.{refl}
use lib.Dec.{lit≤, lit<}
use Rattle.matching.specs.Matching.{open_of, is_side_of}
use Rattle.matching.specs.Held.{may_minimum}
use Rattle.trials.proofs.samples.kill.Goals as goal

pub returns : goal.returns
unfolding open_of may_minimum is_side_of
returns c = (
  record {
    sides = refl;
    tifs = refl;
    minimum = refl;
    level_low = lit< tt;
    level_high = lit≤ tt;
    qty_low = lit< tt;
    qty_high = lit≤ tt;
    covered = lit≤ tt;
    dead = λ h. refl;
    sum_low = lit≤ tt;
    sum_high = lit≤ tt;
    place_low = lit< tt;
  },
  lit< tt,
  record { side = refl; level = lit≤ tt; sum = lit≤ tt },
)
