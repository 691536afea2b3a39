-- `shares::short` meets its contract: with such amounts it is a sound order of equities.
use mathlib.Core.Path.{refl}
use native.Mathlib.Omega.{arith}
use lib.Dec.{lit≤, lit<}
use Rattle.matching.specs.Matching.{open_of, is_side_of}
use Rattle.matching.specs.Held.{may_minimum}
use Rattle.trials.proofs.shares.short.Goals as goal

pub returns : goal.returns
unfolding open_of may_minimum is_side_of
returns c =
    let a = c.requires in (
      record {
        sides = refl;
        tifs = refl;
        minimum = refl;
        level_low = lit< tt;
        level_high = lit≤ tt;
        qty_low = lit< tt;
        qty_high = lit≤ tt;
        covered = a.covered;
        dead = λ h. omega (arith, a.dead h);
        sum_low = a.sum_low;
        sum_high = omega (arith, a.sum_high);
        place_low = lit< tt;
      },
      lit< tt,
      record { side = refl; level = lit≤ tt; sum = a.sum_high },
    )
