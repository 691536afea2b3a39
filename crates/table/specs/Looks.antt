-- What the code that looks over the book notes and finds: the orders that the order in work meets, each with its turn, what it
-- offers and what of it is tradable, and sums of these before a turn. That this is what the steps would trade is proved, so nothing
-- here need be believed. Assumes nothing.
use Rattle.std.specs.Prelude.{◌≡◌, cond, List, ℕ, zero, suc, ◌+◌, ◌-◌, ◌≤◌, ◌<◌, min, ltb, length, get_or}
use Rattle.matching.specs.declared.Order.{Order}
use Rattle.matching.specs.Matching.{Book, sum_over}
use Rattle.matching.specs.Held.{Sound}
use Rattle.matching.specs.Looked.{turn_of, end_of, offered, tradable, own_turn}
use Rattle.table.specs.Heading.{work_of, mode_of}
use Rattle.table.specs.Orders.{order_at, filled}
use Rattle.table.specs.Facts.{Market}

-- what is asked for to look: a market with n records, of which w is in work and has this mode
pub record Lookable (t : List ℕ) (n w mode : ℕ) : Type 0 where
  pub market : Market t
  pub size : n ≡ filled t
  pub work : w ≡ work_of t
  pub some : 1 ≤ w
  pub by : mode ≡ mode_of t (order_at t w).mpid

-- ---- notes: turns, and a quantity for each

-- the quantities of the first n whose turn is before x, added up
unfoldable pub sum_of : List ℕ → List ℕ → ℕ → ℕ → ℕ
sum_of turns amounts x zero = 0
sum_of turns amounts x (suc n) = sum_of turns amounts x n + cond (ltb (get_or turns n 0) x) (get_or amounts n 0) 0

-- the least of end and the turns of those of the first n that offer more than is tradable
unfoldable pub least_own : List ℕ → List ℕ → List ℕ → ℕ → ℕ → ℕ
least_own turns all others end zero = end
least_own turns all others end (suc n) =
    cond (ltb (get_or others n 0) (get_or all n 0)) (min (get_or turns n 0) (least_own turns all others end n)) (least_own turns all others end n)

-- n notes, few and small enough to be added up: turns, and a quantity for each
pub record Notes (turns amounts : List ℕ) (n : ℕ) : Type 0 where
  pub few : n ≤ 255
  pub room : length amounts ≡ 256
  pub early : (k : ℕ) → k < n → get_or turns k 0 < 2_000_000_000_000_000_000
  pub small : (k : ℕ) → k < n → get_or amounts k 0 ≤ 999_999_999

-- of the first n orders of the book those that o meets stand in the notes, m of them
pub record Noted (next : ℕ) (o : Order) (b : Book) (n m : ℕ) (turns all others : List ℕ) : Type 0 where
  pub within : m ≤ n
  pub room : length turns ≡ 256
  pub offers : Notes turns all m
  pub trades : Notes turns others m
  pub offered_sum : (x : ℕ) → sum_of turns all x m ≡ sum_over (λ r. cond (ltb (turn_of next r) x) (offered o r) 0) b n
  pub tradable_sum : (x : ℕ) → sum_of turns others x m ≡ sum_over (λ r. cond (ltb (turn_of next r) x) (tradable o r) 0) b n
  pub own_first : least_own turns all others (end_of next) m ≡ own_turn next o b n

-- room for notes
pub record Blank (turns all others : List ℕ) : Type 0 where
  pub turns_room : length turns ≡ 256
  pub all_room : length all ≡ 256
  pub others_room : length others ≡ 256

-- ---- turns

-- an order whose turn fits
pub record Timely (next : ℕ) (r : Order) : Type 0 where
  pub sound : Sound r
  pub place : r.place < next
  pub next_high : next ≤ 1_000_000_000

-- none of the first n turns is from a on and before b
pub record Clear (turns : List ℕ) (n a b : ℕ) : Type 0 where
  pub ordered : a ≤ b
  pub none : (k : ℕ) → k < n → a ≤ get_or turns k 0 → b ≤ get_or turns k 0

-- what q is not enough for any more lies from turn low on and before turn high
pub record Between (turns amounts : List ℕ) (n q low high : ℕ) : Type 0 where
  pub enough : sum_of turns amounts low n ≤ q
  pub more : q < sum_of turns amounts high n
  pub early : high ≤ 2_000_000_000_000_000_000

-- a window of more than one turn is made smaller, and no window larger
pub record Shrunk (low high l h : ℕ) : Type 0 where
  pub most : h - l ≤ high - low
  pub less : 1 < high - low → h - l < high - low

-- q reaches to turn x, or to the end
pub record Reached (turns amounts : List ℕ) (n q end x : ℕ) : Type 0 where
  pub enough : sum_of turns amounts x n ≤ q
  pub spent : x < end → q < sum_of turns amounts (x + 1) n
  pub early : x ≤ 2_000_000_000_000_000_000
