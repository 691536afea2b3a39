-- `samples::requested` meets its contract.
use lib.Dec.{lit≤}
use Rattle.rows.proofs.Widths.{none_short}
use Rattle.trials.proofs.Texts.{sent}
use Rattle.trials.proofs.samples.requested.Goals as goal

pub returns : goal.returns
returns c = record { ground_in = λ m t. record { orig_in = sent m t 22 5 32 (lit≤ tt); reason_in = none_short m t 3 } }
