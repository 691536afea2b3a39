-- `samples::prevented` meets its contract.
use lib.Dec.{lit<}
use Rattle.rows.proofs.Widths.{none_short, number_short}
use Rattle.trials.proofs.samples.prevented.Goals as goal

pub returns : goal.returns
returns c = record { ground_in = λ m t. record { orig_in = none_short m t 32; reason_in = number_short m t 2 100 (lit< tt) } }
