-- `samples::stamp` meets its contract.
use mathlib.Core.Path.{refl}
use lib.Dec.{lit≤}
use Rattle.trials.proofs.Texts.{stored}
use Rattle.trials.proofs.samples.stamp.Goals as goal

pub returns : goal.returns
returns c = record { of_is = refl; stamp_in = λ m t. record { number_in = c.requires; time_in_lem = stored m t 5 17 21 (lit≤ tt); venue_in = stored m t 0 1 8 (lit≤ tt); port_in = stored m t 1 1 8 (lit≤ tt) } }
