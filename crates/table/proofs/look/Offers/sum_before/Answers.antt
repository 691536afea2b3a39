-- `table::look::Offers::sum_before` meets its contract: r is the sum of the notes passed.
use Rattle.table.proofs.Notes.{summing_none, summing_fits, summing_more, summing_end, summing_most, notes_early, notes_small}
use borrow.Author.Rules.{rules}
use Rattle.table.proofs.look.Offers.sum_before.Goals as goal

pub loop-i-init : goal.loop-i-init
loop-i-init c = summing_none

pub counted-r-requires : goal.counted-r-requires
counted-r-requires c = (search (rules, notes_early), search (rules, notes_small), search rules)

pub overflow_add-r : goal.overflow_add-r
overflow_add-r c = search (rules, summing_fits)

pub loop-i-preserved : goal.loop-i-preserved
loop-i-preserved c = search (rules, summing_more)

pub returns : goal.returns
returns c = (search (rules, summing_end), search (rules, summing_most))
