-- `rows::or_digit` meets its contract.
use mathlib.Core.Path.{◌≡◌}
use Prim.Native.Nat.{ℕ}
use Rattle.report.specs.declared.Value.{Value}
use Rattle.rows.specs.Rows.{digit, or_digit}
use borrow.Author.Tests.{eq-eqb, ne_eqb}
use Rattle.rows.proofs.or_digit.Goals as goal

-- a digit that is not 0
some : (n : ℕ) (r : Value) → (n ≡ 0 → ⊥) → r ≡ digit n → r ≡ or_digit n
unfolding or_digit
some n r h e = rw (ne_eqb n 0 h) e

pub returns-then-n-eq0 : goal.returns-then-n-eq0
unfolding or_digit
returns-then-n-eq0 c = search eq-eqb

pub returns : goal.returns
returns c = some _ _ c.if-n-eq0.false c.digit.ensures
