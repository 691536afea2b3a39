-- `standing::rejected` meets its contract: one field behind another.
use Rattle.kinds.proofs.Standings.{link, link_all, idle}
use Rattle.kinds.specs.Standing.{refusal_slots}
use Rattle.report.specs.Slots.{rejected_slots}
use Rattle.kinds.proofs.standing.rejected.Goals as goal

pub returns : goal.returns
unfolding rejected_slots
returns c =
    idle _ _ 16 _
    (link _ _ c.unused.ensures
    (link _ _ c.listed-g.ensures
    (link _ _ c.one-f.ensures
    (link _ _ c.listed-e.ensures
    (link _ _ c.symbol-d.ensures
    (link _ _ c.side-c.ensures
    (link_all _ (refusal_slots _) c.refusal-b.ensures
    c.front-a.ensures)))))))
