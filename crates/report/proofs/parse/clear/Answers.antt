-- `parse::clear` meets its contract. The invariant: no field with the tag begins up to where the search stands.
use Rattle.report.proofs.Walks.{cleared_none, cleared_more, width_fits}
use borrow.Author.Rules.{rules}
use Rattle.report.proofs.parse.clear.Goals as goal

pub loop-to-init : goal.loop-to-init
loop-to-init c = search (rules, cleared_none)

pub overflow_add-k : goal.overflow_add-k
overflow_add-k c = search (rules, width_fits)

pub loop-to-preserved : goal.loop-to-preserved
loop-to-preserved c = search (rules, cleared_more)
