-- `shares::on_margin` meets its contract.
use lib.Dec.{lit≤, lit<}
use Rattle.trials.proofs.Texts.{stored}
use Rattle.trials.proofs.shares.on_margin.Goals as goal

pub returns : goal.returns
returns c = record { shown_in = λ m t. record { orderid_in = lit< tt; order_in = c.requires.0; quoted_in = c.requires.2; mpid_in = c.requires.1; code_in = stored m t 2 3 9 (lit≤ tt); id_in = stored m t 22 5 32 (lit≤ tt); account_in_lem = stored m t 27 5 10 (lit≤ tt) }; sound = c.requires.0 }
