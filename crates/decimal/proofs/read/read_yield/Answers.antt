-- An optional minus, and the size of the yield.
use Rattle.decimal.proofs.Yields.{minus_some, yield_room, yield_fits, yield_minus, yield_minus_wrong, yield_plain, yield_plain_wrong}
use borrow.Author.Rules.{rules}
use Rattle.decimal.proofs.read.read_yield.Goals as goal

pub slice_bounds-read_size-count : goal.slice_bounds-read_size-count
slice_bounds-read_size-count c = search (rules, minus_some)

pub slice_bounds-read_size-start : goal.slice_bounds-read_size-start
slice_bounds-read_size-start c = search (rules, minus_some)

pub overflow_sub-result : goal.overflow_sub-result
overflow_sub-result c = search (rules, yield_room)

pub returns-then-byte_at-eq45 : goal.returns-then-byte_at-eq45
returns-then-byte_at-eq45 c = search (rules, yield_minus)

pub returns-in_err-t : goal.returns-in_err-t
returns-in_err-t c = search (rules, yield_minus_wrong)

pub overflow_add-result : goal.overflow_add-result
overflow_add-result c = search (rules, yield_fits)

pub returns : goal.returns
returns c = search (rules, yield_plain)

pub returns-in_err-t-2 : goal.returns-in_err-t-2
returns-in_err-t-2 c = search (rules, yield_plain_wrong)
