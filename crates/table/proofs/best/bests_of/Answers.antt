-- `table::best::bests_of` meets its contract: a level that is none has nothing on it.
use Rattle.table.proofs.Fronts.{best_on_lem}
use borrow.Author.Rules.{rules}
use Rattle.table.proofs.best.bests_of.Goals as goal

pub returns : goal.returns
returns c = (search (rules, best_on_lem), search (rules, best_on_lem))
