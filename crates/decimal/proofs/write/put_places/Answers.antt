-- `write::put_places` meets its contract. The invariant: what is still to be written, i digits of m, gives the whole.
use Rattle.decimal.proofs.Digits.{left_all, left_two, left_place, left_fits, left_fits_first, left_place_first, left_end, left_first, left_none, left_one}
use Rattle.octets.proofs.Runs.{wrote_length}
use native.Mathlib.Omega.{arith}
use borrow.Author.Rules.{rules}
use Rattle.decimal.proofs.write.put_places.Goals as goal

pub loop-i-init : goal.loop-i-init
loop-i-init c = left_all _ _ _ _

pub overflow_sub-i : goal.overflow_sub-i
overflow_sub-i c = omega arith

pub overflow_cast-out : goal.overflow_cast-out
overflow_cast-out c = omega arith

pub overflow_add-out : goal.overflow_add-out
overflow_add-out c = omega arith

pub overflow_add-out-in-loop-i : goal.overflow_add-out-in-loop-i
overflow_add-out-in-loop-i c = search (rules, left_fits_first)

pub overflow_add-out-in-loop-i-2 : goal.overflow_add-out-in-loop-i-2
overflow_add-out-in-loop-i-2 c = search (rules, left_fits)

pub bounds-out-at : goal.bounds-out-at
bounds-out-at c = search (rules, left_place)

pub overflow_cast-out-in-loop-i : goal.overflow_cast-out-in-loop-i
overflow_cast-out-in-loop-i c = omega arith

pub overflow_add-out-in-loop-i-3 : goal.overflow_add-out-in-loop-i-3
overflow_add-out-in-loop-i-3 c = omega arith

pub overflow_add-out-in-loop-i-4 : goal.overflow_add-out-in-loop-i-4
overflow_add-out-in-loop-i-4 c = search (rules, left_fits_first)

pub bounds-out-at-in-loop-i : goal.bounds-out-at-in-loop-i
bounds-out-at-in-loop-i c = search (rules, left_place_first)

pub loop-i-smaller : goal.loop-i-smaller
loop-i-smaller c = omega arith

pub loop-i-preserved : goal.loop-i-preserved
loop-i-preserved c = search (rules, left_two)

pub overflow_cast-out-then-i-eq1 : goal.overflow_cast-out-then-i-eq1
overflow_cast-out-then-i-eq1 c = omega arith

pub overflow_add-out-then-i-eq1 : goal.overflow_add-out-then-i-eq1
overflow_add-out-then-i-eq1 c = omega arith

pub bounds-out-at-then-i-eq1 : goal.bounds-out-at-then-i-eq1
bounds-out-at-then-i-eq1 c = search (rules, left_first)

pub overflow_add-result : goal.overflow_add-result
overflow_add-result c = search (rules, left_end)

pub returns-then-i-eq1 : goal.returns-then-i-eq1
returns-then-i-eq1 c = search (rules, left_one)

pub shape_of-out-then-i-eq1 : goal.shape_of-out-then-i-eq1
shape_of-out-then-i-eq1 c = wrote_length (returns-then-i-eq1 c)

pub overflow_add-result-2 : goal.overflow_add-result-2
overflow_add-result-2 c = search (rules, left_end)

pub returns : goal.returns
returns c = left_none _ _ _ _ _ _ _ c.loop-i.invariant (omega arith)

pub shape_of-out : goal.shape_of-out
shape_of-out c = search (rules, wrote_length)
