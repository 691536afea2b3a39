-- `members::take_apart` meets its contract: the members that are left, written behind those that are, give the whole.
use Rattle.members.proofs.Going.{starts, goes_on, mpids_end, modes_end}
use borrow.Author.Rules.{rules}
use Rattle.members.proofs.take_apart.Goals as goal

pub loop-k-init : goal.loop-k-init
loop-k-init c = search (rules, starts)

pub loop-k-preserved : goal.loop-k-preserved
loop-k-preserved c = search (rules, goes_on)

pub returns : goal.returns
returns c = (search (rules, mpids_end), search (rules, modes_end))
