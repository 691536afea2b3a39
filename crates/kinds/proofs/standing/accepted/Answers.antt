-- `standing::accepted` meets its contract: one field behind another.
use Rattle.kinds.proofs.Standings.{link, link_all, idle}
use Rattle.kinds.specs.Standing.{closing_slots, first_slots, order_slots, state_slots, term_slots}
use Rattle.report.specs.Slots.{accepted_slots}
use Rattle.kinds.proofs.standing.accepted.Goals as goal

pub returns : goal.returns
unfolding accepted_slots
returns c =
    let q = c.args.q in
    idle _ _ 6 _
    (link_all _ (closing_slots q) c.closing.ensures
    (link _ _ c.own-g.ensures
    (link_all _ (state_slots _ _) c.state-f.ensures
    (link_all _ (term_slots q) c.terms-e.ensures
    (link _ _ c.level-d.ensures
    (link_all _ (order_slots _ _) c.order-c.ensures
    (link_all _ (first_slots _) c.first-b.ensures
    c.front-a.ensures)))))))
