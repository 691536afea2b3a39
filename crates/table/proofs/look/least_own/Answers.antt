-- `table::look::least_own` meets its contract: x is the nearest of the notes passed.
use Rattle.table.proofs.Notes.{nearing_none, nearing_more, nearing_end}
use borrow.Author.Rules.{rules}
use Rattle.table.proofs.look.least_own.Goals as goal

pub loop-i-init : goal.loop-i-init
loop-i-init c = nearing_none

pub loop-i-preserved : goal.loop-i-preserved
loop-i-preserved c = search (rules, nearing_more)

pub returns : goal.returns
returns c = search (rules, nearing_end)
