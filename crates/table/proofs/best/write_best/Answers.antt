-- `table::best::write_best` meets its contract: the numbers of orders, the levels, the totals.
use Rattle.table.proofs.Writes.{best_written}
use borrow.Author.Rules.{rules}
use Rattle.table.proofs.best.write_best.Goals as goal

pub returns : goal.returns
returns c = search (rules, best_written)
