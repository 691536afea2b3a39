-- The number of digits at the front. Invariant: the first i bytes are digits.
use mathlib.Core.Path.{sym, ◌∙◌}
use Rattle.decimal.proofs.Scans.{scan_more, scan_stop, scan_end}
use borrow.Author.Rules.{rules}
use Rattle.decimal.proofs.read.digit_run.Goals as goal

pub returns-then-not-is_digit : goal.returns-then-not-is_digit
returns-then-not-is_digit c = let e = sym c.is_digit.ensures ∙ c.if-not-is_digit.true in search (rules, scan_stop)

pub loop-i-preserved : goal.loop-i-preserved
loop-i-preserved c = scan_more _ _ _ (search rules) (search rules) (sym c.is_digit.ensures ∙ c.if-not-is_digit.false)

pub returns : goal.returns
returns c = search (rules, scan_end)
