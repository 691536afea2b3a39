-- How a block of 512 bytes is weighed in columns: 32 columns of 16 bytes, each byte 32 places behind the one above it. Nothing here need be
-- believed: the laws show that it comes to `weighed`. Assumes nothing.
use Rattle.std.specs.Prelude.{List, ℕ, zero, suc, ◌+◌, ◌*◌, get_or}

-- f 0 + f 1 and so on, n of them
unfoldable pub sum_to : (ℕ → ℕ) → ℕ → ℕ
sum_to f zero = 0
sum_to f (suc n) = sum_to f n + f n

-- n bytes of t, 32 apart, from place p on, summed up
unfoldable pub down : List ℕ → ℕ → ℕ → ℕ
down t p zero = 0
down t p (suc n) = get_or t p 0 + down t (p + 32) n

-- the same with each byte times its row, from 0 on
unfoldable pub turned : List ℕ → ℕ → ℕ → ℕ
turned t p zero = 0
turned t p (suc n) = turned t (p + 32) n + down t (p + 32) n

-- what column c adds to the weight
unfoldable pub column_part : List ℕ → List ℕ → ℕ → ℕ
column_part sums turns c = 32 * get_or turns c 0 + (1 + c) * get_or sums c 0
