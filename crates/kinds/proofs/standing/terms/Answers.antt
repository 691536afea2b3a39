-- `standing::terms` meets its contract: one field behind another.
use Rattle.kinds.proofs.Standings.{link}
use Rattle.kinds.proofs.standing.terms.Goals as goal

pub returns : goal.returns
returns c =
    link _ _ c.number.ensures
    (link _ _ c.number-f.ensures
    (link _ _ c.time-e.ensures
    (link _ _ c.one-d.ensures
    (link _ _ c.symbol-c.ensures
    (link _ _ c.side-b.ensures
    c.one-a.ensures)))))
