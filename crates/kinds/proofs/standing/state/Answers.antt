-- `standing::state` meets its contract: one field behind another.
use Rattle.kinds.proofs.Standings.{link}
use Rattle.kinds.proofs.standing.state.Goals as goal

pub returns : goal.returns
returns c =
    link _ _ c.number.ensures
    c.one-a.ensures
