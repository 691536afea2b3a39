-- `rows::copy_slots` meets its contract. The invariant: what is still to do gives the end.
use borrow.Author.Rules.{rules}
use Rattle.feed.specs.Rows.{copy_slots}
use Rattle.feed.proofs.Weaving.{weave_first, weave_behind, weave_before, weave_end}
use Rattle.feed.proofs.rows.copy_slots.Goals.{then-behind, else-behind}
use Rattle.feed.proofs.rows.copy_slots.Goals as goal

pub loop-at-init : goal.loop-at-init
loop-at-init c = weave_first _ _ _ _ (search rules)

pub loop-at-preserved : goal.loop-at-preserved
loop-at-preserved c =
    elim c.if-behind.branch [
      | then-behind w ↦ rw (w.all-is, w.held-is) (weave_behind _ _ _ _ _ _ _ _ c.loop-at.invariant c.loop-at-test.true _ w.if-behind.true)
      | else-behind w ↦ rw (w.all-is, w.held-is) (weave_before _ _ _ _ _ _ _ _ c.loop-at.invariant c.loop-at-test.true _ _ w.copy_slot.ensures w.if-behind.false)
    ]

pub returns : goal.returns
unfolding copy_slots
returns c = weave_end _ _ _ _ _ _ _ _ c.loop-at.invariant c.loop-at-test.false
