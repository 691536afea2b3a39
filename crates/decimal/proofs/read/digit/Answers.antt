-- The digit that a byte is, at most 9, or 100.
use Rattle.decimal.proofs.Numbers.{digit_low, digit_high, digit_is, digit_not}
use mathlib.Core.Path.{sym, ◌∙◌}
use native.Mathlib.Omega.{arith}
use borrow.Author.Rules.{rules}
use Rattle.decimal.proofs.read.digit.Goals as goal

pub overflow_sub-b : goal.overflow_sub-b
overflow_sub-b c = digit_low c.args.b (sym c.is_digit.ensures ∙ c.if-is_digit.true)

pub returns-then-is_digit : goal.returns-then-is_digit
returns-then-is_digit c = let e = sym c.is_digit.ensures ∙ c.if-is_digit.true in (c.from.ensures ∙ sym (digit_is _ e), omega (arith, digit_high _ e))

pub returns-else-is_digit : goal.returns-else-is_digit
returns-else-is_digit c = let e = sym c.is_digit.ensures ∙ c.if-is_digit.false in (sym (digit_not _ e), search rules)
