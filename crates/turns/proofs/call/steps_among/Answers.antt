-- `turns::call::steps_among` meets its contract: after each turn, what is left to do gives what all the steps give.
use native.Mathlib.Omega.{arith}
use borrow.Author.Rules.{rules}
use Rattle.table.proofs.Faced.{unmet_blank}
use Rattle.turns.proofs.Going.{going_first, stop_walked, step_within, step_busy, step_room, bytes_fit, reports_fit, going_on, spent_walked}
use Rattle.turns.proofs.call.steps_among.Goals as goal

pub face-m-requires : goal.face-m-requires
face-m-requires c = (search rules, search (rules, unmet_blank), search rules)

pub loop-taken-init : goal.loop-taken-init
loop-taken-init c = (search (rules, going_first), search rules)

pub overflow_sub-room : goal.overflow_sub-room
overflow_sub-room c = omega arith

pub returns-then-rests : goal.returns-then-rests
returns-then-rests c = search (rules, stop_walked)

pub slice_bounds-step_among-count : goal.slice_bounds-step_among-count
slice_bounds-step_among-count c = search (rules, step_within)

pub slice_bounds-step_among-start : goal.slice_bounds-step_among-start
slice_bounds-step_among-start c = search (rules, step_within)

pub step_among-told-requires : goal.step_among-told-requires
step_among-told-requires c =
    let asked = c in
    let turn = asked in
    let go = turn.loop-taken.invariant.0 in (
      step_busy _ _ _ _ _ _ _ _ go turn.loop-taken-test.true _ asked.rests.ensures asked.if-rests.false,
      step_room _ _ _ _ _ _ _ _ go turn.loop-taken-test.true _ asked.rests.ensures asked.if-rests.false,
      search rules,
    )

pub overflow_add-at : goal.overflow_add-at
overflow_add-at c =
    let told = c in
    let asked = told in
    let turn = asked in
    bytes_fit _ _ _ _ _ _ _ _ turn.loop-taken.invariant.0 turn.loop-taken-test.true _ asked.rests.ensures asked.if-rests.false _ _ _
    told.step_among-told.ensures.0

pub overflow_add-reports : goal.overflow_add-reports
overflow_add-reports c = search (rules, reports_fit)

pub loop-taken-preserved : goal.loop-taken-preserved
loop-taken-preserved c =
    let told = c in
    let asked = told in
    let turn = asked in (
      going_on _ _ _ _ _ _ _ _ turn.loop-taken.invariant.0 turn.loop-taken-test.true _ asked.rests.ensures asked.if-rests.false _ _ _
          told.step_among-told.ensures.0,
      told.step_among-told.ensures.1,
    )

pub returns : goal.returns
returns c = search (rules, spent_walked)
