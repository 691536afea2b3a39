-- `table::best::best_at` meets its contract: the three numbers of the side are read.
use Rattle.table.proofs.Fronts.{read_buy, read_sell}
use borrow.Author.Rules.{rules}
use Rattle.table.proofs.best.best_at.Goals as goal

pub returns-then-side-eq1 : goal.returns-then-side-eq1
returns-then-side-eq1 c = search (rules, read_buy)

pub returns : goal.returns
returns c = search (rules, read_sell)
