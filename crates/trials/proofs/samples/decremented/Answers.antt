-- `samples::decremented` meets its contract.
use lib.Dec.{lit≤, lit<}
use Rattle.rows.proofs.Widths.{number_short}
use Rattle.trials.proofs.Texts.{stored}
use Rattle.trials.proofs.samples.decremented.Goals as goal

pub returns : goal.returns
returns c = record { ground_in = λ m t. record { orig_in = stored m t 22 5 32 (lit≤ tt); reason_in = number_short m t 2 100 (lit< tt) } }
