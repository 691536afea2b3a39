-- `table::look::Offers::first_from` meets its contract: r is the first of the turns passed that is not before x.
use Rattle.table.proofs.Notes.{clear_none, first_more, clear_end}
use borrow.Author.Rules.{rules}
use Rattle.table.proofs.look.Offers.first_from.Goals as goal

pub loop-i-init : goal.loop-i-init
loop-i-init c = search (rules, clear_none)

pub loop-i-preserved : goal.loop-i-preserved
loop-i-preserved c = search (rules, first_more)

pub returns : goal.returns
returns c = search (rules, clear_end)
