-- `parse::may_soon` meets its contract. The invariant: none begins behind the j bytes that were looked at, unless one was said to.
use Rattle.report.proofs.Walks.{passing_none, passing_more, passing_end}
use borrow.Author.Rules.{rules}
use Rattle.report.proofs.parse.may_soon.Goals as goal

pub loop-j-init : goal.loop-j-init
loop-j-init c = passing_none _ _ _

pub loop-j-preserved : goal.loop-j-preserved
loop-j-preserved c = search (rules, passing_more)

pub returns : goal.returns
returns c = search (rules, passing_end)
