-- `standing::session_reject` meets its contract: one field behind another.
use Rattle.kinds.proofs.Standings.{link, idle}
use Rattle.report.specs.Slots.{session_reject_slots}
use Rattle.kinds.proofs.standing.session_reject.Goals as goal

pub returns : goal.returns
unfolding session_reject_slots
returns c =
    idle _ _ 25 _
    (link _ _ c.unused.ensures
    (link _ _ c.listed-e.ensures
    (link _ _ c.text-d.ensures
    (link _ _ c.number-c.ensures
    (link _ _ c.number-b.ensures
    c.front-a.ensures)))))
