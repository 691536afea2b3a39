-- The fields from the left. Invariant: the verdict on all is that on those left in the row, and the rows hold what the fields
-- before them say.
use Rattle.request.proofs.Gathering.{gather_start, seat_room, seat_behind, seat_within, seat_less, place_near, gather_fails, gather_more, gather_end}
use borrow.Author.Rules.{rules}
use Rattle.request.proofs.body.gather.Goals as goal

pub loop-f-init : goal.loop-f-init
loop-f-init c = search (rules, gather_start)

pub step-requires : goal.step-requires
step-requires c = search (rules, seat_room)

pub overflow_sub-f : goal.overflow_sub-f
overflow_sub-f c = search (rules, seat_behind)

pub judged-requires : goal.judged-requires
judged-requires c = (search (rules, place_near), search (rules, seat_within))

pub returns-in-Err : goal.returns-in-Err
returns-in-Err c = search (rules, gather_fails)

pub loop-f-smaller : goal.loop-f-smaller
loop-f-smaller c = search (rules, seat_less)

pub loop-f-preserved : goal.loop-f-preserved
loop-f-preserved c = search (rules, gather_more)

pub returns : goal.returns
returns c = search (rules, gather_end)
