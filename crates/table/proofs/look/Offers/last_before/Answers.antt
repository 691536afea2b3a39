-- `table::look::Offers::last_before` meets its contract: r is behind the last of the turns passed that is before x.
use Rattle.table.proofs.Notes.{clear_none, last_more, clear_end}
use borrow.Author.Rules.{rules}
use Rattle.table.proofs.look.Offers.last_before.Goals as goal

pub loop-i-init : goal.loop-i-init
loop-i-init c = search (rules, clear_none)

pub loop-i-preserved : goal.loop-i-preserved
loop-i-preserved c = search (rules, last_more)

pub returns : goal.returns
returns c = search (rules, clear_end)
