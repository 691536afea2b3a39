-- `standing::changed` meets its contract: one field behind another.
use Rattle.kinds.proofs.Standings.{link, link_all}
use Rattle.kinds.specs.Standing.{closing_slots, first_slots, order_slots, state_slots, term_slots}
use Rattle.kinds.proofs.standing.changed.Goals as goal

pub returns : goal.returns
returns c =
    let q = c.args.q in
    link_all _ (closing_slots q) c.closing.ensures
    (link _ _ c.own-i.ensures
    (link _ _ c.listed-h.ensures
    (link_all _ (state_slots _ _) c.state-g.ensures
    (link_all _ (term_slots q) c.terms-f.ensures
    (link _ _ c.level-e.ensures
    (link _ _ c.text-d.ensures
    (link_all _ (order_slots _ _) c.order-c.ensures
    (link_all _ (first_slots _) c.first-b.ensures
    c.front-a.ensures))))))))
