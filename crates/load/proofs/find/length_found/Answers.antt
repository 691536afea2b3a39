-- `load::find::length_found` meets its contract: one return a test.
use native.Mathlib.Omega.{arith}
use Rattle.load.proofs.Finding.{no_beginning, no_number, digits_few, number_few, no_soh, too_long, found}
use borrow.Author.Rules.{rules}
use Rattle.std.proofs.Common.{ap, not}
use Rattle.load.proofs.find.length_found.Goals as goal

pub returns-then-not-same : goal.returns-then-not-same
returns-then-not-same c = no_beginning _ _ c.part_at.ensures _ c.same.ensures (ap not c.if-not-same.true)

pub returns-in_err-n : goal.returns-in_err-n
returns-in_err-n c = rw c.from_residual.ensures (no_number _ _ c.part_at.ensures _ c.same.ensures (ap not c.if-not-same.false) _ c.part_at-2.ensures _ c.digit_run-k.ensures _ c.part_at-3.ensures _ c.read_number.ensures c.in_err-n.was)

pub overflow_add-k : goal.overflow_add-k
overflow_add-k c = record { fits = omega (arith, digits_few _ _ c.part_at.ensures _ c.same.ensures (ap not c.if-not-same.false) _ c.part_at-2.ensures _ c.digit_run-k.ensures _ c.part_at-3.ensures _ c.read_number.ensures _ c.in_ok-n.was) }

pub returns-then-byte_at-ne1 : goal.returns-then-byte_at-ne1
returns-then-byte_at-ne1 c = no_soh _ _ c.part_at.ensures _ c.same.ensures (ap not c.if-not-same.false) _ c.part_at-2.ensures _ c.digit_run-k.ensures _ c.part_at-3.ensures _ c.read_number.ensures _ c.in_ok-n.was _ c.byte_at.ensures c.if-byte_at-ne1.true

pub overflow_add-end : goal.overflow_add-end
overflow_add-end c = record { fits = omega (arith, digits_few _ _ c.part_at.ensures _ c.same.ensures (ap not c.if-not-same.false) _ c.part_at-2.ensures _ c.digit_run-k.ensures _ c.part_at-3.ensures _ c.read_number.ensures _ c.in_ok-n.was, number_few _ _ c.part_at.ensures _ c.same.ensures (ap not c.if-not-same.false) _ c.part_at-2.ensures _ c.digit_run-k.ensures _ c.part_at-3.ensures _ c.read_number.ensures _ c.in_ok-n.was) }

pub overflow_add-end-2 : goal.overflow_add-end-2
overflow_add-end-2 c = record { fits = omega (arith, digits_few _ _ c.part_at.ensures _ c.same.ensures (ap not c.if-not-same.false) _ c.part_at-2.ensures _ c.digit_run-k.ensures _ c.part_at-3.ensures _ c.read_number.ensures _ c.in_ok-n.was, number_few _ _ c.part_at.ensures _ c.same.ensures (ap not c.if-not-same.false) _ c.part_at-2.ensures _ c.digit_run-k.ensures _ c.part_at-3.ensures _ c.read_number.ensures _ c.in_ok-n.was) }

pub overflow_add-end-3 : goal.overflow_add-end-3
overflow_add-end-3 c = record { fits = omega (arith, digits_few _ _ c.part_at.ensures _ c.same.ensures (ap not c.if-not-same.false) _ c.part_at-2.ensures _ c.digit_run-k.ensures _ c.part_at-3.ensures _ c.read_number.ensures _ c.in_ok-n.was, number_few _ _ c.part_at.ensures _ c.same.ensures (ap not c.if-not-same.false) _ c.part_at-2.ensures _ c.digit_run-k.ensures _ c.part_at-3.ensures _ c.read_number.ensures _ c.in_ok-n.was) }

pub overflow_add-end-4 : goal.overflow_add-end-4
overflow_add-end-4 c = record { fits = omega (arith, digits_few _ _ c.part_at.ensures _ c.same.ensures (ap not c.if-not-same.false) _ c.part_at-2.ensures _ c.digit_run-k.ensures _ c.part_at-3.ensures _ c.read_number.ensures _ c.in_ok-n.was, number_few _ _ c.part_at.ensures _ c.same.ensures (ap not c.if-not-same.false) _ c.part_at-2.ensures _ c.digit_run-k.ensures _ c.part_at-3.ensures _ c.read_number.ensures _ c.in_ok-n.was) }

pub returns-then-s-end : goal.returns-then-s-end
returns-then-s-end c = too_long _ _ c.part_at.ensures _ c.same.ensures (ap not c.if-not-same.false) _ c.part_at-2.ensures _ c.digit_run-k.ensures _ c.part_at-3.ensures _ c.read_number.ensures _ c.in_ok-n.was _ c.byte_at.ensures c.if-byte_at-ne1.false c.if-s-end.true

pub returns : goal.returns
returns c = found _ _ c.part_at.ensures _ c.same.ensures (ap not c.if-not-same.false) _ c.part_at-2.ensures _ c.digit_run-k.ensures _ c.part_at-3.ensures _ c.read_number.ensures _ c.in_ok-n.was _ c.byte_at.ensures c.if-byte_at-ne1.false c.if-s-end.false
