-- The number of digits at the front. Invariant: the first i bytes are digits.
use Rattle.decimal.specs.Reading.{is_digit}
use Rattle.decimal.proofs.Scans.{Scan}
use Rattle.decimal.proofs.read.digit_run.Given as goal

abbrev pub invariant-loop-i : goal.invariant-loop-i
invariant-loop-i l = Scan is_digit l.s l.i
