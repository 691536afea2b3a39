-- A session Reject.
use Rattle.request.specs.Asks.{refusal_of}
use Rattle.request.proofs.asks.refuses.Goals as goal

pub returns : goal.returns
unfolding refusal_of
returns c = rw c.from.ensures
