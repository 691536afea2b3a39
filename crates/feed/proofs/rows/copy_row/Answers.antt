-- `rows::copy_row` meets its contract. The invariant: what is still to do gives the end.
use borrow.Author.Rules.{rules}
use Rattle.feed.proofs.Weaving.{weave_first, weave_behind, weave_before, weave_still, weave_end, kept_field, copy_row_is}
use Rattle.feed.proofs.rows.copy_row.Goals.{then-behind, else-behind+then-is_new, else-behind+else-is_new}
use Rattle.feed.proofs.rows.copy_row.Goals as goal

pub loop-at-init : goal.loop-at-init
loop-at-init c = weave_first _ _ _ _ (search rules)

pub loop-at-preserved : goal.loop-at-preserved
loop-at-preserved c =
    elim c.if-behind.branch [
      | then-behind w ↦ rw (w.row-is, w.held-is) (weave_behind _ _ _ _ _ _ _ _ c.loop-at.invariant c.loop-at-test.true _ w.if-behind.true)
      | else-behind+then-is_new w ↦ rw (w.row-is, w.held-is) (weave_before _ _ _ _ _ _ _ _ c.loop-at.invariant c.loop-at-test.true _ _ w.copy_field.ensures w.if-behind.false)
      | else-behind+else-is_new w ↦ rw (w.row-is, w.held-is) (weave_still _ _ _ _ _ _ _ _ c.loop-at.invariant c.loop-at-test.true _ (kept_field _ _ _ _ w.is_new.ensures w.if-is_new.false) w.if-behind.false)
    ]

pub returns : goal.returns
returns c = copy_row_is _ _ _ _ _ c.shown_row-row.ensures (weave_end _ _ _ _ _ _ _ _ c.loop-at.invariant c.loop-at-test.false)
