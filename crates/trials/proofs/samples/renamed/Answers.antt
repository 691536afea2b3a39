-- `samples::renamed` meets its contract.
use lib.Dec.{lit≤, lit<}
use Rattle.trials.proofs.Texts.{stored}
use Rattle.trials.proofs.samples.renamed.Goals as goal

pub known-requires : goal.known-requires
known-requires c = (lit< tt, c.requires.0, c.requires.1, c.requires.2)

pub returns : goal.returns
returns c =
    let k = c.known.ensures in
    record { shown_in = λ m t. record { orderid_in = (k.shown_in m t).orderid_in; order_in = (k.shown_in m t).order_in; quoted_in = (k.shown_in m t).quoted_in; mpid_in = (k.shown_in m t).mpid_in; code_in = (k.shown_in m t).code_in; id_in = stored m t 32 5 32 (lit≤ tt); account_in_lem = (k.shown_in m t).account_in_lem }; sound = k.sound }
