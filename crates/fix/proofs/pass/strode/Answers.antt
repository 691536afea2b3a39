-- The tag, the value behind it, and the SOH that ends it, with the sum.
use Rattle.fix.proofs.Paces.{strode_none, strode_start, strode_fits, strode_rest, strode_other, strode_good}
use Rattle.std.proofs.Common.{rules}
use Rattle.fix.proofs.pass.strode.Goals as goal

pub returns-in_default : goal.returns-in_default
returns-in_default c = search (rules, strode_none)

pub overflow_add-v : goal.overflow_add-v
overflow_add-v c = search (rules, strode_fits)

pub slice_bounds-run-count : goal.slice_bounds-run-count
slice_bounds-run-count c = search (rules, strode_start)

pub slice_bounds-run-start : goal.slice_bounds-run-start
slice_bounds-run-start c = search (rules, strode_start)

pub run-w-requires : goal.run-w-requires
run-w-requires c = search (rules, strode_rest)

pub returns-then-w-ne1 : goal.returns-then-w-ne1
returns-then-w-ne1 c = search (rules, strode_other)

pub returns : goal.returns
returns c = search (rules, strode_good)
