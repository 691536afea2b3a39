-- Numbers of members in an array of nine, one more than a market may have: nine are enough to see that there are too many. Only an
-- inner function speaks of this. Assumes nothing.
use Rattle.std.specs.Prelude.{ℕ, List, replicate}
use Rattle.std.proofs.lemmas.List.Edits.{sets}

-- numbers in an array of nine, zeros behind them
abbrev pub in_nine : List ℕ → List ℕ
in_nine xs = sets (replicate 9 0) 0 xs
