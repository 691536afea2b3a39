-- `table::best::open_of_at` meets its contract: what is used is taken off OrderQty, down to nothing.
use native.Mathlib.Omega.{arith}
use Rattle.table.proofs.Fronts.{open_some}
use borrow.Author.Rules.{rules}
use Rattle.table.proofs.best.open_of_at.Goals as goal

pub returns : goal.returns
returns c = (search (rules, open_some), omega arith)
