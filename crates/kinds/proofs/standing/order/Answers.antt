-- `standing::order` meets its contract: one field behind another.
use Rattle.kinds.proofs.Standings.{link}
use Rattle.kinds.proofs.standing.order.Goals as goal

pub returns : goal.returns
returns c =
    link _ _ c.one.ensures
    (link _ _ c.one-c.ensures
    (link _ _ c.number-b.ensures
    c.number-a.ensures))
