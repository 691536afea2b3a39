-- A test at every number below a bound, and the first number at which a test holds. Assumes nothing.
use Rattle.std.specs.Prelude.{Bool, true, false, ◌&&◌, ℕ, zero, suc, ◌+◌}

-- f holds at every number below n
unfoldable pub all_up_to : (ℕ → Bool) → ℕ → Bool
all_up_to f zero = true
all_up_to f (suc n) = all_up_to f n && f n

-- the first of the n numbers from i on at which f holds; where there is none, i + n
unfoldable pub first_from : (ℕ → Bool) → ℕ → ℕ → ℕ
first_from f i zero = i
first_from f i (suc n) = elim (f i) [ true ↦ i | false ↦ first_from f (i + 1) n ]
