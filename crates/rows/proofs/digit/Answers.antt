-- `rows::digit` meets its contract.
use mathlib.Core.Path.{refl}
use Rattle.rows.specs.Rows.{digit}
use Rattle.rows.proofs.digit.Goals as goal

pub returns : goal.returns
unfolding digit
returns c = refl
