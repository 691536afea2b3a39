-- `samples::stamp_sent` meets its contract.
use lib.Dec.{lit≤}
use Rattle.trials.proofs.Texts.{sent}
use Rattle.trials.proofs.samples.stamp_sent.Goals as goal

pub returns : goal.returns
returns c =
    let s = c.stamp.ensures in
    record { of_is = s.of_is; stamp_in = λ m t. record { number_in = (s.stamp_in m t).number_in; time_in_lem = sent m t 0 17 21 (lit≤ tt); venue_in = (s.stamp_in m t).venue_in; port_in = (s.stamp_in m t).port_in } }
