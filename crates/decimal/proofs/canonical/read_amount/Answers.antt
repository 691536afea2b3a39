-- `canonical::read_amount` meets its contract: digits, a point, and the decimals.
use lib.ListN.{length-take}
use Rattle.decimal.proofs.Canon.{amount_end, amount_other, amount_whole, amount_part, amount_yes, whole_fits, part_fits}
use native.Mathlib.Omega.{arith}
use borrow.Author.Rules.{rules}
use Rattle.decimal.proofs.canonical.read_amount.Goals as goal

pub returns-then-w-s : goal.returns-then-w-s
returns-then-w-s c = search (rules, amount_end)

pub returns-then-s-w-ne46 : goal.returns-then-s-w-ne46
returns-then-s-w-ne46 c = search (rules, amount_other)

pub slice_bounds-read_bare-end : goal.slice_bounds-read_bare-end
slice_bounds-read_bare-end c = simp length-take (omega arith)

pub returns-in_err-whole : goal.returns-in_err-whole
returns-in_err-whole c = search (rules, amount_whole)

pub returns-in_err-part : goal.returns-in_err-part
returns-in_err-part c = rw c.from_residual-in_err-part.ensures (search (rules, amount_part, c.in_ok-whole.was, c.in_err-part.was))

pub overflow_mul-result : goal.overflow_mul-result
overflow_mul-result c = search (rules, whole_fits)

pub overflow_add-result : goal.overflow_add-result
overflow_add-result c = search (rules, part_fits, c.in_ok-whole.was, c.in_ok-part.was)

pub returns : goal.returns
returns c = search (rules, amount_yes, c.in_ok-whole.was, c.in_ok-part.was)
