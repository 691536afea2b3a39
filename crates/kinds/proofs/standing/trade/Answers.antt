-- `standing::trade` meets its contract: one field behind another.
use Rattle.kinds.proofs.Standings.{link, link_all}
use Rattle.kinds.specs.Standing.{closing_slots, first_slots, state_slots, term_slots, traded_slots}
use Rattle.report.specs.Slots.{trade_slots}
use Rattle.kinds.proofs.standing.trade.Goals as goal

pub returns : goal.returns
unfolding trade_slots
returns c =
    let q = c.args.q in
    link_all _ (closing_slots q) c.closing.ensures
    (link _ _ c.number-j.ensures
    (link _ _ c.listed-i.ensures
    (link _ _ c.own-h.ensures
    (link _ _ c.count-g.ensures
    (link _ _ c.other-f.ensures
    (link_all _ (state_slots _ _) c.state-e.ensures
    (link_all _ (term_slots q) c.terms-d.ensures
    (link_all _ (traded_slots _) c.traded-c.ensures
    (link_all _ (first_slots _) c.first-b.ensures
    c.front-a.ensures)))))))))
