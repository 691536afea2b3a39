-- `table::look::tradable` meets its contract.
use Rattle.table.proofs.Looks.{tradable_none, tradable_all}
use borrow.Author.Rules.{rules}
use Rattle.table.proofs.look.tradable.Goals as goal

pub returns-then-same_owner : goal.returns-then-same_owner
returns-then-same_owner c = search (rules, tradable_none)

pub returns : goal.returns
returns c = search (rules, tradable_all)
