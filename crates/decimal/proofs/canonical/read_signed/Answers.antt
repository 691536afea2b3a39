-- `canonical::read_signed` meets its contract: an amount below zero, or not.
use Rattle.decimal.proofs.Canon.{minus_some, below_wrong, below_none, below_some, below_le, above_wrong, above_some, above_fits}
use borrow.Author.Rules.{rules}
use Rattle.decimal.proofs.canonical.read_signed.Goals as goal

pub slice_bounds-read_amount-count : goal.slice_bounds-read_amount-count
slice_bounds-read_amount-count c = search (rules, minus_some)

pub slice_bounds-read_amount-start : goal.slice_bounds-read_amount-start
slice_bounds-read_amount-start c = search (rules, minus_some)

pub returns-in_err-m : goal.returns-in_err-m
returns-in_err-m c = search (rules, below_wrong)

pub returns-then-m-eq0 : goal.returns-then-m-eq0
returns-then-m-eq0 c = search (rules, below_none)

pub overflow_sub-result : goal.overflow_sub-result
overflow_sub-result c = search (rules, below_le)

pub returns-then-byte_at-eq45 : goal.returns-then-byte_at-eq45
returns-then-byte_at-eq45 c = search (rules, below_some)

pub returns-in_err-m-2 : goal.returns-in_err-m-2
returns-in_err-m-2 c = search (rules, above_wrong)

pub overflow_add-result : goal.overflow_add-result
overflow_add-result c = search (rules, above_fits)

pub returns : goal.returns
returns c = search (rules, above_some)
