-- The number that a character says.
use mathlib.Core.Path.{sym, ◌∙◌}
use Rattle.decimal.proofs.Numbers.{digit_low}
use Rattle.request.proofs.Judging.{char_digit, char_other}
use borrow.Author.Rules.{rules}
use Rattle.request.proofs.values.char_says.Goals as goal

pub overflow_sub-c : goal.overflow_sub-c
overflow_sub-c c = digit_low c.args.c (sym c.is_digit.ensures ∙ c.if-is_digit.true)

pub returns-then-is_digit : goal.returns-then-is_digit
returns-then-is_digit c = search (rules, char_digit)

pub returns-else-is_digit : goal.returns-else-is_digit
returns-else-is_digit c = search (rules, char_other)
