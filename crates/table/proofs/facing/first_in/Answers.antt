-- `table::facing::first_in` meets its contract: c is the first of the records passed.
use Rattle.table.proofs.Faced.{lowest_one, lowest_more, lowest_below, lowest_end}
use borrow.Author.Rules.{rules}
use Rattle.table.proofs.facing.first_in.Goals as goal

pub loop-i-init : goal.loop-i-init
loop-i-init c = search (rules, lowest_one)

pub earlier-c-requires : goal.earlier-c-requires
earlier-c-requires c = (search (rules, lowest_below), search rules)

pub loop-i-preserved : goal.loop-i-preserved
loop-i-preserved c = search (rules, lowest_more)

pub returns : goal.returns
returns c = search (rules, lowest_end)
