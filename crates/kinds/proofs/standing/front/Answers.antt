-- `standing::front` meets its contract: one field behind another.
use Rattle.kinds.proofs.Standings.{link}
use Rattle.kinds.proofs.standing.front.Goals as goal

pub returns : goal.returns
returns c =
    link _ _ c.text.ensures
    (link _ _ c.time-e.ensures
    (link _ _ c.group-d.ensures
    (link _ _ c.text-c.ensures
    (link _ _ c.number-b.ensures
    c.one-a.ensures))))
