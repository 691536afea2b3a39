-- `market::front::has_note` meets its contract.
use Rattle.market.specs.Top.{has_note}
use Rattle.market.proofs.front.has_note.Goals as goal

pub returns : goal.returns
unfolding has_note
returns c = rw (c.decided-d.ensures.0, c.work.ensures.0)
