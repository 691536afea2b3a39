-- 1 to `most` digits, and what stands behind them.
use Rattle.decimal.proofs.Numbers.{run_digits}
use Rattle.decimal.proofs.Yields.{run_in, run_count, whole_fits, sum_fits, size_short, size_long, size_is, size_wrong}
use borrow.Author.Rules.{rules}
use Rattle.decimal.proofs.read.read_size.Goals as goal

pub returns-then-w-eq0 : goal.returns-then-w-eq0
returns-then-w-eq0 c = search (rules, size_short)

pub returns-then-most-w : goal.returns-then-most-w
returns-then-most-w c = search (rules, size_long)

pub slice_bounds-read_fraction-count : goal.slice_bounds-read_fraction-count
slice_bounds-read_fraction-count c = search (rules, run_in)

pub slice_bounds-read_fraction-start : goal.slice_bounds-read_fraction-start
slice_bounds-read_fraction-start c = search (rules, run_in)

pub slice_bounds-number-end : goal.slice_bounds-number-end
slice_bounds-number-end c = search (rules, run_count)

pub number-requires : goal.number-requires
number-requires c = let k = c in run_digits k.args.s.now k.digit_run-w.result k.digit_run-w.ensures (search rules)

pub overflow_mul-result : goal.overflow_mul-result
overflow_mul-result c = search (rules, whole_fits)

pub overflow_add-result : goal.overflow_add-result
overflow_add-result c = search (rules, sum_fits, c.in_ok-f.was)

pub returns : goal.returns
returns c = search (rules, size_is, c.in_ok-f.was)

pub returns-in_err-f : goal.returns-in_err-f
returns-in_err-f c = search (rules, size_wrong)
