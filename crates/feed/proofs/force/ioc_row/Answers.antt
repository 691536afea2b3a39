-- `force::ioc_row` meets its contract. The invariant: what is still to do gives the end.
use borrow.Author.Rules.{rules}
use Rattle.feed.proofs.Shown.{changing_first, changing_more, changing_end}
use Rattle.feed.proofs.force.ioc_row.Goals as goal

pub loop-i-init : goal.loop-i-init
loop-i-init c = changing_first _ _ (search rules)

pub loop-i-preserved : goal.loop-i-preserved
loop-i-preserved c = search (rules, changing_more)

pub returns : goal.returns
returns c = changing_end _ _ _ _ c.loop-i.invariant c.loop-i-test.false
