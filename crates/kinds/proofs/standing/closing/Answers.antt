-- `standing::closing` meets its contract: one field behind another.
use Rattle.kinds.proofs.Standings.{link}
use Rattle.kinds.proofs.standing.closing.Goals as goal

pub returns : goal.returns
returns c =
    link _ _ c.unused.ensures
    (link _ _ c.last-b.ensures
    c.one-a.ensures)
