-- `rows::copy_slots` meets its contract. The invariant: what is still to do gives the end.
use Rattle.feed.specs.Rows.{copy_slot, slot797}
use Rattle.feed.proofs.Weaving.{Weaving}
use Rattle.feed.proofs.rows.copy_slots.Given as goal

abbrev pub invariant-loop-at : goal.invariant-loop-at
invariant-loop-at l = Weaving (λ s. s.tag) (copy_slot l.q) slot797 l.initial.all l.all l.held l.behind l.at
