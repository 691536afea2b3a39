-- `standing::traded` meets its contract: one field behind another.
use Rattle.kinds.proofs.Standings.{link, link_all}
use Rattle.kinds.specs.Standing.{order_slots}
use Rattle.kinds.proofs.standing.traded.Goals as goal

pub returns : goal.returns
returns c =
    link _ _ c.level.ensures
    (link_all _ (order_slots _ _) c.order-c.ensures
    (link _ _ c.number-b.ensures
    c.level-a.ensures))
