-- `table::best::put_best` meets its contract: the best level of each side is worked out, and both are written.
use Rattle.table.proofs.Fronts.{best_put}
use borrow.Author.Rules.{rules}
use Rattle.table.proofs.best.put_best.Goals as goal

pub returns : goal.returns
returns c = search (rules, best_put)
