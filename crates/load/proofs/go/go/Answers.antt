-- `load::go::go` meets its contract: after each message, what is still to be taken gives what all of them give.
use native.Mathlib.Omega.{arith}
use borrow.Author.Rules.{rules}
use Rattle.load.proofs.Loading.{says_takes, says_stops}
use Rattle.load.proofs.Going.{along_first, stop_went, free_within, take_ready, take_room, at_fits, place_fits, after_market, broken_went, along_on, finished_fits, goes_less}
use Rattle.load.proofs.go.go.Goals as goal

pub loop-n-init : goal.loop-n-init
loop-n-init c = search (rules, along_first)

pub overflow_sub-room : goal.overflow_sub-room
overflow_sub-room c = omega arith

pub next_at-requires : goal.next_at-requires
next_at-requires c = (c.loop-n.invariant.idle.long, c.loop-n.invariant.inside)

pub returns-in-Err : goal.returns-in-Err
returns-in-Err c = stop_went _ _ _ _ _ _ _ _ _ c.loop-n.invariant _ (says_stops _ _ _ _ _ c.loop-n.invariant.idle c.next_at.ensures _ c.in-Err.is)

pub slice_bounds-take-count : goal.slice_bounds-take-count
slice_bounds-take-count c = search (rules, free_within)

pub slice_bounds-take-start : goal.slice_bounds-take-start
slice_bounds-take-start c = search (rules, free_within)

pub take-more-requires : goal.take-more-requires
take-more-requires c = (take_ready _ _ _ _ _ _ _ _ _ c.loop-n.invariant _ (says_takes _ _ _ _ _ c.loop-n.invariant.idle c.next_at.ensures _ c.in-Ok.is), take_room _ _ _ _ _ _ _ _ _ c.loop-n.invariant _ (says_takes _ _ _ _ _ c.loop-n.invariant.idle c.next_at.ensures _ c.in-Ok.is))

pub overflow_add-place : goal.overflow_add-place
overflow_add-place c = place_fits _ _ _ _ _ _ _ _ _ c.loop-n.invariant _ (says_takes _ _ _ _ _ c.loop-n.invariant.idle c.next_at.ensures _ c.in-Ok.is) _ c.part_at.ensures _ _ _ c.take-more.ensures

pub overflow_add-at : goal.overflow_add-at
overflow_add-at c = at_fits _ _ _ _ _ _ _ _ _ c.loop-n.invariant _ (says_takes _ _ _ _ _ c.loop-n.invariant.idle c.next_at.ensures _ c.in-Ok.is) _ c.part_at.ensures _ _ _ c.take-more.ensures

pub work-requires : goal.work-requires
work-requires c = (after_market _ _ _ _ _ _ _ _ _ c.loop-n.invariant _ (says_takes _ _ _ _ _ c.loop-n.invariant.idle c.next_at.ensures _ c.in-Ok.is) _ c.part_at.ensures _ _ _ c.take-more.ensures).long

pub returns-then-work-ne0 : goal.returns-then-work-ne0
returns-then-work-ne0 c = broken_went _ _ _ _ _ _ _ _ _ c.loop-n.invariant _ (says_takes _ _ _ _ _ c.loop-n.invariant.idle c.next_at.ensures _ c.in-Ok.is) _ c.part_at.ensures _ _ _ c.take-more.ensures _ c.work.ensures.0 c.if-work-ne0.true

pub overflow_add-finished : goal.overflow_add-finished
overflow_add-finished c = finished_fits _ _ _ _ _ _ _ _ _ c.loop-n.invariant _ (says_takes _ _ _ _ _ c.loop-n.invariant.idle c.next_at.ensures _ c.in-Ok.is) _ c.part_at.ensures _ _ _ c.take-more.ensures

pub loop-n-smaller : goal.loop-n-smaller
loop-n-smaller c = goes_less _ _ _ _ _ _ _ _ _ c.loop-n.invariant _ (says_takes _ _ _ _ _ c.loop-n.invariant.idle c.next_at.ensures _ c.in-Ok.is) _ c.part_at.ensures _ _ _ c.take-more.ensures

pub loop-n-preserved : goal.loop-n-preserved
loop-n-preserved c = along_on _ _ _ _ _ _ _ _ _ c.loop-n.invariant _ (says_takes _ _ _ _ _ c.loop-n.invariant.idle c.next_at.ensures _ c.in-Ok.is) _ c.part_at.ensures _ _ _ c.take-more.ensures _ c.work.ensures.0 c.if-work-ne0.false
