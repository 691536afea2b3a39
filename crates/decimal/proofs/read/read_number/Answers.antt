-- What 1 to `most` digits say. Invariant: the first i bytes are digits and say n.
use Rattle.decimal.proofs.Numbers.{tried_start, tried_times, tried_fits, tried_more, tried_wrong, num_empty, num_long, num_is}
use borrow.Author.Rules.{rules}
use Rattle.decimal.proofs.read.read_number.Goals as goal

pub returns-then-s-eq0 : goal.returns-then-s-eq0
returns-then-s-eq0 c = search (rules, num_empty)

pub returns-then-most-s : goal.returns-then-most-s
returns-then-most-s c = search (rules, num_long)

pub loop-b-init : goal.loop-b-init
loop-b-init c = search (rules, tried_start)

pub returns-then-d-gt9 : goal.returns-then-d-gt9
returns-then-d-gt9 c = search (rules, tried_wrong)

pub overflow_mul-n : goal.overflow_mul-n
overflow_mul-n c = search (rules, tried_times)

pub overflow_add-n : goal.overflow_add-n
overflow_add-n c = search (rules, tried_fits)

pub loop-b-preserved : goal.loop-b-preserved
loop-b-preserved c = search (rules, tried_more)

pub returns : goal.returns
returns c = search (rules, num_is)
