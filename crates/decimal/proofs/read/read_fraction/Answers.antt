-- Nothing, or a point and 1 to k digits.
use Rattle.decimal.proofs.Yields.{fraction_none, fraction_other, fraction_few, fraction_fits, fraction_is, fraction_wrong}
use borrow.Author.Rules.{rules}
use Rattle.decimal.proofs.read.read_fraction.Goals as goal

pub returns-then-s-eq0 : goal.returns-then-s-eq0
returns-then-s-eq0 c = search (rules, fraction_none)

pub returns-then-s-ne46 : goal.returns-then-s-ne46
returns-then-s-ne46 c = search (rules, fraction_other)

pub overflow_sub-k : goal.overflow_sub-k
overflow_sub-k c = search (rules, fraction_few)

pub overflow_mul-result : goal.overflow_mul-result
overflow_mul-result c = search (rules, fraction_fits)

pub returns : goal.returns
returns c = search (rules, fraction_is)

pub returns-in_err-n : goal.returns-in_err-n
returns-in_err-n c = search (rules, fraction_wrong)
