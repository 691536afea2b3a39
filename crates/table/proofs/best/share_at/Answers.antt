-- `table::best::share_at` meets its contract: an order of another side or level adds nothing, any other what is open.
use native.Mathlib.Omega.{arith}
use Rattle.table.proofs.Fronts.{share_other, share_off, share_on}
use borrow.Author.Rules.{rules}
use Rattle.table.proofs.best.share_at.Goals as goal

pub returns-then-not-on_side_at : goal.returns-then-not-on_side_at
returns-then-not-on_side_at c = (search (rules, share_other), omega arith)

pub returns-then-level_at-level : goal.returns-then-level_at-level
returns-then-level_at-level c = (search (rules, share_off), omega arith)

pub returns : goal.returns
returns c = (search (rules, share_on), search rules)
