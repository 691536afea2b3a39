-- A byte from 48 to 57 is a digit.
use Rattle.decimal.specs.Reading.{is_digit}
use mathlib.Core.Path.{refl}
use Rattle.decimal.proofs.read.is_digit.Goals as goal

pub returns : goal.returns
unfolding is_digit
returns c = refl
