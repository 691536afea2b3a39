-- `standing::first` meets its contract: one field behind another.
use Rattle.kinds.proofs.Standings.{link}
use Rattle.kinds.proofs.standing.first.Goals as goal

pub returns : goal.returns
returns c =
    link _ _ c.one.ensures
    (link _ _ c.number-e.ensures
    (link _ _ c.number-d.ensures
    (link _ _ c.text-c.ensures
    (link _ _ c.average-b.ensures
    c.text-a.ensures))))
