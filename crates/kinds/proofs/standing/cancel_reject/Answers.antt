-- `standing::cancel_reject` meets its contract: one field behind another.
use Rattle.kinds.proofs.Standings.{link, idle}
use Rattle.report.specs.Slots.{cancel_reject_slots}
use Rattle.kinds.proofs.standing.cancel_reject.Goals as goal

pub returns : goal.returns
unfolding cancel_reject_slots
returns c =
    idle _ _ 23 _
    (link _ _ c.unused.ensures
    (link _ _ c.listed-g.ensures
    (link _ _ c.listed-f.ensures
    (link _ _ c.text-e.ensures
    (link _ _ c.one-d.ensures
    (link _ _ c.order_id-c.ensures
    (link _ _ c.text-b.ensures
    c.front-a.ensures)))))))
