-- The one walk. Invariant: the fields before the cursor stand in the row and are right, and the rest of the message is left.
use Rattle.std.proofs.Common.{refl, rules}
use Rattle.fix.proofs.Rows.{walk_start, walk_closed, walk_passing, walk_count, walk_slot, walk_broken, walk_end, walk_less, walk_notes, walk_twice, walk_more}
use Rattle.fix.proofs.pass.walk.Goals as goal

pub loop-tag-init : goal.loop-tag-init
loop-tag-init c = walk_start _ _ _ (search rules) refl

pub pace-requires : goal.pace-requires
pace-requires c = (search (rules, walk_closed), search rules)

pub passed-requires : goal.passed-requires
passed-requires c = search (rules, walk_passing)

pub returns-then-passed : goal.returns-then-passed
returns-then-passed c = search (rules, walk_twice)

pub bounds-marks-k : goal.bounds-marks-k
bounds-marks-k c = search (rules, walk_slot)

pub note-requires : goal.note-requires
note-requires c = search (rules, walk_notes)

pub overflow_add-count : goal.overflow_add-count
overflow_add-count c = search (rules, walk_count)

pub loop-tag-smaller : goal.loop-tag-smaller
loop-tag-smaller c = search (rules, walk_less)

pub loop-tag-preserved : goal.loop-tag-preserved
loop-tag-preserved c = search (rules, walk_more)

pub returns-in-Broken : goal.returns-in-Broken
returns-in-Broken c = search (rules, walk_broken)

pub returns-in-End : goal.returns-in-End
returns-in-End c = search (rules, walk_end)
