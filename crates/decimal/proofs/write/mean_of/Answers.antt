-- `write::mean_of` meets its contract.
use Rattle.decimal.proofs.Means.{mean_none, mean_below, mean_above}
use native.Mathlib.Omega.{arith}
use borrow.Author.Rules.{rules}
use Rattle.decimal.proofs.write.mean_of.Goals as goal

pub returns-then-executed-eq0 : goal.returns-then-executed-eq0
returns-then-executed-eq0 c = search (rules, mean_none)

pub overflow_sub-result : goal.overflow_sub-result
overflow_sub-result c = omega arith

pub returns-then-sum-zero : goal.returns-then-sum-zero
returns-then-sum-zero c = search (rules, mean_below)

pub overflow_add-result : goal.overflow_add-result
overflow_add-result c = omega arith

pub returns : goal.returns
returns c = search (rules, mean_above)
