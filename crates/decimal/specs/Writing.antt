-- How numbers are written: document 01, "The reports", and T-08 of document 02. A number has no needless zero; a yield has three
-- decimals and its AvgPx six, a price has one and its AvgPx four; all have one whole digit or more, and zero has no minus. A yield
-- or a price is given as its level, and AvgPx as its mean, which is a level to three decimals more: 1,000,000,000,000 stands for
-- zero. So nothing here is below zero. Assumes nothing.
use Rattle.std.specs.Prelude.{ℕ, zero, suc, ◌+◌, ◌-◌, ◌*◌, ◌/◌, ◌%◌, ◌^◌, ◌≤◌, ◌<◌, ◌≡◌, cond, ◌&&◌, List, [], ◌∷◌, ◌++◌, ltb, eqb}
use Rattle.octets.specs.Characters.{byte, bytes}
use Rattle.decimal.specs.declared.Instrument.{Instrument}
use Rattle.decimal.specs.Instruments.{whole_digits, decimals, mean_decimals, signed, amount_from}

-- n in at most so many digits, the most significant first, with no needless zero
abbrev pub decimal_in : ℕ → ℕ → List ℕ
decimal_in zero n = []
decimal_in (suc k) n = cond (ltb n 10) ((byte "0" + n) ∷ []) (decimal_in k (n / 10) ++ ((byte "0" + n % 10) ∷ []))

-- the digits of a number below 2 ^ 64, which has at most twenty
unfoldable pub decimal : ℕ → List ℕ
decimal n = decimal_in 20 n

-- the last k digits of n, the most significant first, its zeros with them
unfoldable pub places : ℕ → ℕ → List ℕ
places zero n = []
places (suc k) n = places k (n / 10) ++ ((byte "0" + n % 10) ∷ [])

-- the unit of a number with k decimals, k at most six
pub record Scale (k unit : ℕ) : Type 0 where
  pub unit_is : unit ≡ 10 ^ k
  pub some : 0 < unit
  pub most : unit ≤ 1000000

-- an amount with k decimals, given in its smallest unit: the whole part, a point, the decimals
unfoldable pub plain : ℕ → ℕ → List ℕ
plain k m = decimal (m / 10 ^ k) ++ bytes "." ++ places k m

-- what stands for zero where a yield, a price or an average has k decimals: no such number is further from it
abbrev pub zero_of : Instrument → ℕ → ℕ
zero_of q k = 10 ^ k * 10 ^ whole_digits q

-- the number with k decimals that v stands for
unfoldable pub fixed : Instrument → ℕ → ℕ → List ℕ
fixed q k v =
    cond (signed q && ltb v (zero_of q k)) (bytes "-" ++ plain k (zero_of q k - v)) (plain k (amount_from q (zero_of q k) v))

-- a yield or a price, from its level
unfoldable pub level_text : Instrument → ℕ → List ℕ
level_text q level = fixed q (decimals q) level

-- AvgPx, from its mean
unfoldable pub mean_text : Instrument → ℕ → List ℕ
mean_text q mean = fixed q (mean_decimals q) mean

-- ---- AvgPx

-- d units of the last decimal shared by e, to the nearest thousandth of one: the cut share where less than half of that is left
-- over, and the next one from half on, so that halves go away from zero
unfoldable pub share_of : ℕ → ℕ → ℕ
share_of d e = cond (ltb (2 * (d * 1000 % e)) e) (d * 1000 / e) (d * 1000 / e + 1)

-- the mean of what has executed, from the sum of quantity times level: the nearest thousandth of a level, halves away from zero,
-- above zero and below, since it is the distance from zero that is shared; before any execution it is zero
unfoldable pub mean_of : ℕ → ℕ → ℕ
mean_of sum executed =
    cond (eqb executed 0) 1000000000000
    (cond (ltb sum (executed * 1000000000))
    (1000000000000 - share_of (executed * 1000000000 - sum) executed)
    (1000000000000 + share_of (sum - executed * 1000000000) executed))
