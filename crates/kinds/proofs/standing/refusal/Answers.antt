-- `standing::refusal` meets its contract: one field behind another.
use Rattle.kinds.proofs.Standings.{link}
use Rattle.kinds.proofs.standing.refusal.Goals as goal

pub returns : goal.returns
returns c =
    link _ _ c.one.ensures
    (link _ _ c.number-g.ensures
    (link _ _ c.word-f.ensures
    (link _ _ c.one-e.ensures
    (link _ _ c.number-d.ensures
    (link _ _ c.listed-c.ensures
    (link _ _ c.text-b.ensures
    c.average-a.ensures))))))
