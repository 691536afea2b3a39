-- `samples::bare` meets its contract.
use lib.Dec.{lit<}
use Rattle.rows.proofs.Widths.{none_short}
use Rattle.trials.proofs.samples.bare.Goals as goal

pub known-requires : goal.known-requires
known-requires c = (lit< tt, c.requires.0, c.requires.1, c.requires.2)

pub returns : goal.returns
returns c =
    let k = c.known.ensures in
    record { shown_in = λ m t. record { orderid_in = (k.shown_in m t).orderid_in; order_in = (k.shown_in m t).order_in; quoted_in = (k.shown_in m t).quoted_in; mpid_in = (k.shown_in m t).mpid_in; code_in = (k.shown_in m t).code_in; id_in = (k.shown_in m t).id_in; account_in_lem = none_short m t 10 }; sound = k.sound }
