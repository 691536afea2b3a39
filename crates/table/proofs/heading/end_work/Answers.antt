-- `table::heading::end_work` meets its contract: the order in work, its text and the decision are zeros.
use Rattle.table.proofs.Writes.{work_ended}
use borrow.Author.Rules.{rules}
use Rattle.table.proofs.heading.end_work.Goals as goal

pub returns : goal.returns
returns c = search (rules, work_ended)
