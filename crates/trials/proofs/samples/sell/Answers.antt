-- `samples::sell` meets its contract: with such amounts it is a sound order.
use mathlib.Core.Path.{refl}
use native.Mathlib.Omega.{arith}
use lib.Dec.{lit≤, lit<}
use Rattle.matching.specs.Matching.{open_of, is_side_of}
use Rattle.matching.specs.Held.{may_minimum}
use Rattle.trials.proofs.samples.sell.Goals as goal

pub returns : goal.returns
unfolding open_of may_minimum is_side_of
returns c =
    let a = c.requires.2 in (
      record {
        sides = refl;
        tifs = refl;
        minimum = refl;
        level_low = c.requires.0;
        level_high = c.requires.1;
        qty_low = lit< tt;
        qty_high = lit≤ tt;
        covered = a.covered;
        dead = λ h. omega (arith, a.dead h);
        sum_low = a.sum_low;
        sum_high = a.sum_high;
        place_low = lit< tt;
      },
      lit< tt,
      record { side = refl; level = c.requires.1; sum = a.sum_high },
    )
