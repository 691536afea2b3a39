-- `table::facing::first` meets its contract: c is the first of the sixteens passed.
use Rattle.table.proofs.Faced.{finding_none, first_below, first_place, finding_more, finding_end}
use borrow.Author.Rules.{rules}
use Rattle.table.proofs.facing.first.Goals as goal

pub loop-j-init : goal.loop-j-init
loop-j-init c = search (rules, finding_none)

pub offset_bounds-firsts-j : goal.offset_bounds-firsts-j
offset_bounds-firsts-j c = search (rules, first_place)

pub bounds-firsts-j : goal.bounds-firsts-j
bounds-firsts-j c = search (rules, first_place)

pub earlier-c-requires : goal.earlier-c-requires
earlier-c-requires c = (search rules, search (rules, first_below))

pub loop-j-preserved : goal.loop-j-preserved
loop-j-preserved c = search (rules, finding_more)

pub returns : goal.returns
returns c = search (rules, finding_end)
