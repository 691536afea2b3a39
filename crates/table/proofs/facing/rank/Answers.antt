-- `table::facing::rank` meets its contract: the firsts of the sixteens passed are noted.
use Rattle.table.proofs.Faced.{firsts_none, firsts_more, firsts_end}
use borrow.Author.Rules.{rules}
use Rattle.table.proofs.facing.rank.Goals as goal

pub loop-j-init : goal.loop-j-init
loop-j-init c = search (rules, firsts_none)

pub loop-j-preserved : goal.loop-j-preserved
loop-j-preserved c = search (rules, firsts_more)

pub returns : goal.returns
returns c = search (rules, firsts_end)
