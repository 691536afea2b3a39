-- `write::digits` meets its contract. The invariant: k digits are counted, and those of m are not yet.
use Rattle.decimal.proofs.Digits.{count_none, count_more, count_one, count_two, count_three, count_four}
use native.Mathlib.Omega.{arith}
use borrow.Author.Rules.{rules}
use Rattle.decimal.proofs.write.digits.Goals as goal

pub loop-m-init : goal.loop-m-init
loop-m-init c = count_none _ (search rules)

pub loop-m-smaller : goal.loop-m-smaller
loop-m-smaller c = omega arith

pub loop-m-preserved : goal.loop-m-preserved
loop-m-preserved c = search (rules, count_more)

pub returns-then-m-lt10 : goal.returns-then-m-lt10
returns-then-m-lt10 c = search (rules, count_one)

pub returns-then-m-lt100 : goal.returns-then-m-lt100
returns-then-m-lt100 c = search (rules, count_two)

pub returns-then-m-lt1000 : goal.returns-then-m-lt1000
returns-then-m-lt1000 c = search (rules, count_three)

pub returns : goal.returns
returns c = search (rules, count_four)
