-- `table::best::with_record` meets its contract: an order that adds nothing is none of the level.
use mathlib.Core.Path.{refl}
use native.Mathlib.Omega.{arith}
use borrow.Author.Rules.{rules}
use Rattle.table.proofs.Fronts.{nothing_more, none_more, some_more, one_more_lem}
use Rattle.table.proofs.best.with_record.Goals as goal

pub returns-then-x-eq0 : goal.returns-then-x-eq0
returns-then-x-eq0 c = (refl, search (rules, nothing_more), search (rules, none_more), omega arith)

pub returns : goal.returns
returns c = (refl, search (rules, some_more), search (rules, one_more_lem), omega arith)
