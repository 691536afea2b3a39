-- The number that the digits say. Invariant: the first i digits say n.
use native.Mathlib.Omega.{arith}
use Rattle.decimal.proofs.Numbers.{digit_at, pow_nine, digits_more, number_end}
use borrow.Author.Rules.{rules}
use Rattle.decimal.proofs.read.number.Goals as goal

pub overflow_sub-b : goal.overflow_sub-b
overflow_sub-b c = (digit_at c.args.s.now c.loop-b.b-index c.requires.1 (search rules)).0

pub overflow_mul-n : goal.overflow_mul-n
overflow_mul-n c = record { fits = omega (arith, pow_nine c.loop-b.b-index (omega arith)) }

pub overflow_add-n : goal.overflow_add-n
overflow_add-n c = let l = c in
    record { fits = omega (arith, pow_nine l.loop-b.b-index (omega arith), digit_at l.args.s.now l.loop-b.b-index (search rules) (search rules)) }

pub loop-b-preserved : goal.loop-b-preserved
loop-b-preserved c = rw c.from.ensures (digits_more _ _ _ c.requires.1 (omega arith) c.loop-b.invariant)

pub returns : goal.returns
returns c = omega (arith, number_end c.loop-b.n c.args.s.now c.loop-b.b-index (omega arith))
