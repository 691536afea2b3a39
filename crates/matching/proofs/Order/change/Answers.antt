-- Each event adds its amount to one of the order's; a replacement sets its terms, an acceptance all of it.
use borrow.Author.Rules.{rules}
use native.Mathlib.Omega.{arith}
use Rattle.std.proofs.Common.{inl, inr}
use Rattle.matching.specs.Matching.{open_of, change}
use Rattle.matching.proofs.Values.{value_fits, sum_fits}
use Rattle.matching.proofs.Order.change.Goals as goal

pub overflow_add-result : goal.overflow_add-result
unfolding open_of
overflow_add-result c = record { fits = omega (arith, rw c.in-Decremented.is at c.requires.1.enough) }

pub overflow_add-result-in-Traded : goal.overflow_add-result-in-Traded
unfolding open_of
overflow_add-result-in-Traded c = record { fits = omega (arith, rw c.in-Traded.is at c.requires.1.enough) }

pub overflow_mul-result : goal.overflow_mul-result
overflow_mul-result c = search (rules, value_fits)

pub overflow_add-result-in-Traded-2 : goal.overflow_add-result-in-Traded-2
overflow_add-result-in-Traded-2 c = search (rules, sum_fits)

pub returns-in-Accepted : goal.returns-in-Accepted
unfolding change
returns-in-Accepted c = rw c.in-Accepted.is

pub returns-in-Replaced : goal.returns-in-Replaced
unfolding change
returns-in-Replaced c = rw (c.in-Replaced.is, c.place_after.ensures)

pub returns-in-Withdrawn : goal.returns-in-Withdrawn
unfolding change
returns-in-Withdrawn c =
    elim c.in-Withdrawn.is [ inl w ↦ rw w.1 | inr w ↦ elim w [ inl k ↦ rw k.1 | inr k ↦ elim k [ inl x ↦ rw x.1 | inr x ↦ rw x.1 ] ] ]

pub returns-in-Decremented : goal.returns-in-Decremented
unfolding change
returns-in-Decremented c = rw c.in-Decremented.is

pub returns-in-Traded : goal.returns-in-Traded
unfolding change
returns-in-Traded c = rw c.in-Traded.is
