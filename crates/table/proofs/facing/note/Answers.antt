-- `table::facing::note` meets its contract: the turns of the records passed are noted.
use Rattle.table.proofs.Faced.{met_none, due_timely, met_more, met_skip, met_end}
use borrow.Author.Rules.{rules}
use Rattle.table.proofs.facing.note.Goals as goal
use Rattle.table.proofs.facing.note.Goals.{then-turn-lt-END, else-turn-lt-END}

pub loop-k-init : goal.loop-k-init
loop-k-init c = search (rules, met_none)

pub due-turn-requires : goal.due-turn-requires
due-turn-requires c = (search (rules, due_timely), search rules)

pub loop-k-preserved : goal.loop-k-preserved
loop-k-preserved c =
    elim c.if-turn-lt-END.branch [
      | then-turn-lt-END w ↦ rw (w.turns-is, w.m-is) (search (rules, met_more))
      | else-turn-lt-END w ↦ rw (w.turns-is, w.m-is) (search (rules, met_skip))
    ]

pub returns : goal.returns
returns c = search (rules, met_end)
