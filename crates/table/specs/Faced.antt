-- What the code notes of the orders that the order in work meets: a turn for each record, behind every turn where it is not met, and
-- of every sixteen records the one whose turn is the first. That the first of all is the order that it is matched with is proved, so
-- nothing here need be believed. Assumes nothing.
use Rattle.std.specs.Prelude.{◌≡◌, cond, List, ℕ, ◌+◌, ◌*◌, ◌≤◌, ◌<◌, length, get_or}
use Rattle.matching.specs.declared.Order.{Order}
use Rattle.matching.specs.Matching.{Book, at, open_of, faces}
use Rattle.matching.specs.Held.{In}
use Rattle.matching.specs.Looked.{turn_of}

-- the turn of r among the orders that o meets, places being below 1,000,000,000; behind every turn if o does not meet it
unfoldable pub due_of : Order → Order → ℕ
due_of o r = cond (faces o r) (turn_of 1_000_000_000 r) 2_000_000_000_000_000_000

-- nothing is noted yet
pub record Unmet (turns : List ℕ) : Type 0 where
  pub room : length turns ≡ 256
  pub none : (k : ℕ) → k < 256 → get_or turns k 0 ≡ 2_000_000_000_000_000_000

-- the turns of the first i orders of b for o are noted, by number; none behind m, which is the last that is met
pub record Met (o : Order) (b : Book) (i m : ℕ) (turns : List ℕ) : Type 0 where
  pub room : length turns ≡ 256
  pub within : m ≤ i
  pub none : get_or turns 0 0 ≡ 2_000_000_000_000_000_000
  pub each : (k : ℕ) → 1 ≤ k → k ≤ i → get_or turns k 0 ≡ due_of o (at b k)
  pub rest : (k : ℕ) → m < k → k < 256 → get_or turns k 0 ≡ 2_000_000_000_000_000_000

-- of the turns from a on and before e that of c is the first
pub record Lowest (turns : List ℕ) (a e c : ℕ) : Type 0 where
  pub from : a ≤ c
  pub before : c < e
  pub least : (k : ℕ) → a ≤ k → k < e → get_or turns c 0 ≤ get_or turns k 0

-- the firsts of m sixteens
pub record Firsts (turns firsts : List ℕ) (m : ℕ) : Type 0 where
  pub room : length firsts ≡ 16
  pub first : (j : ℕ) → j < m → Lowest turns (16 * j) (16 * j + 16) (get_or firsts j 0)

-- the same, with nothing noted behind them, nor of number 0
pub record Ranked (turns firsts : List ℕ) (m : ℕ) : Type 0 where
  pub room : length turns ≡ 256
  pub few : m ≤ 16
  pub none : get_or turns 0 0 ≡ 2_000_000_000_000_000_000
  pub sixteens : Firsts turns firsts m
  pub rest : (k : ℕ) → 16 * m ≤ k → k < 256 → get_or turns k 0 ≡ 2_000_000_000_000_000_000

-- c is the first of all, or 0 if nothing is noted
pub record First (turns : List ℕ) (c : ℕ) : Type 0 where
  pub few : c ≤ 255
  pub least : (k : ℕ) → k < 256 → get_or turns c 0 ≤ get_or turns k 0
  pub some : 1 ≤ c → get_or turns c 0 < 2_000_000_000_000_000_000

-- the turns of all orders of b for w are noted, as long as w has something open, and none behind them
pub record Facing (b : Book) (w : ℕ) (turns firsts : List ℕ) (m : ℕ) : Type 0 where
  pub ranked : Ranked turns firsts m
  pub beyond : (k : ℕ) → length b < k → k < 256 → get_or turns k 0 ≡ 2_000_000_000_000_000_000
  pub due : 0 < open_of (at b w) → (k : ℕ) → In b k → get_or turns k 0 ≡ due_of (at b w) (at b k)
