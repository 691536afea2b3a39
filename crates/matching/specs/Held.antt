-- What a market asks of its orders and of its book as far as matching goes (document 01, "The table and its calls", the
-- clauses from the ranges of the fields on). `Held` is what every step needs and leaves. Assumes nothing.
use Rattle.std.specs.Prelude.{◌≡◌, Bool, true, false, cond, ◌||◌, List, [], ◌∷◌, ◌≢◌, ℕ, suc, ◌+◌, ◌*◌, ◌≤◌, ◌<◌, length, eqb, leb}
use Rattle.decimal.specs.declared.Instrument.TheVariants.{Equities}
use Rattle.matching.specs.declared.Order.{Order}
use Rattle.matching.specs.declared.Event.{Event}
use Rattle.matching.specs.declared.Event.TheVariants.{Accepted, Replaced, Withdrawn, Canceled, Decremented, Traded, Killed, Expired}
use Rattle.matching.specs.Matching.{Book, at, open_of, is_side_of, is_buy, is_immediate, opposed_to, who, after}

-- executed, decremented and canceled are at most the quantity
abbrev pub Covered : Order → Type 0
Covered o = o.executed + o.decremented + o.canceled ≤ o.qty

-- MinQty belongs to an IOC, and is at most OrderQty; a Day order and a Fill or Kill have none
unfoldable pub may_minimum : Order → Bool
may_minimum o = cond (eqb o.tif 3) (leb o.minqty o.qty) (eqb o.minqty 0)

-- one order in its ranges, in whichever market: its side is one of any market; what is canceled leaves nothing open; the sum of
-- quantity times level is what the executed quantity can come to at levels 1 to 1,999,999,999. What the market itself asks is in Quoted
pub record Sound (o : Order) : Type 0 where
  pub sides : is_side_of Equities o.side ≡ true
  pub tifs : (eqb o.tif 0 || is_immediate o) ≡ true
  pub minimum : may_minimum o ≡ true
  pub level_low : 0 < o.level
  pub level_high : o.level ≤ 1_999_999_999
  pub qty_low : 0 < o.qty
  pub qty_high : o.qty ≤ 999_999_999
  pub covered : Covered o
  pub dead : 0 < o.canceled → open_of o ≡ 0
  pub sum_low : o.executed ≤ o.sum
  pub sum_high : o.sum ≤ o.executed * 1_999_999_999
  pub place_low : 0 < o.place

-- number k is that of an order of the book
pub record In (b : Book) (k : ℕ) : Type 0 where
  pub low : 0 < k
  pub high : k ≤ length b

-- no open buy meets an open sell, order w left aside: the sell's level lies below the buy's
abbrev pub Uncrossed : Book → ℕ → Type 0
Uncrossed b w =
    (i j : ℕ) → i ≢ w → j ≢ w → is_buy (at b i) ≡ true → is_buy (at b j) ≡ false → 0 < open_of (at b i) → 0 < open_of (at b j)
    → (at b j).level < (at b i).level

-- the book of a market whose next number is next and whose order in work is w (0 for none); listed tells its MPIDs
pub record Held (listed : ℕ → Bool) (next : ℕ) (b : Book) (w : ℕ) : Type 0 where
  pub work : w ≤ length b
  pub sound : (k : ℕ) → In b k → Sound (at b k)
  pub owned : (k : ℕ) → In b k → (eqb (at b k).mpid 0 || listed (at b k).mpid) ≡ true
  pub places_apart : (i j : ℕ) → In b i → In b j → (at b i).place ≡ (at b j).place → i ≡ j
  pub places_below : (k : ℕ) → In b k → (at b k).place < next
  pub no_ioc_lem : (k : ℕ) → k ≢ w → is_immediate (at b k) ≡ true → open_of (at b k) ≡ 0
  pub uncrossed : Uncrossed b w
  pub next_high : next ≤ 1_000_000_000
  pub numbers : 0 < open_of (at b w) → next + 2 * opposed_to b w + 1 ≤ 1_000_000_000

-- what an event takes of its order's open quantity, and the level it trades at
abbrev pub amount : Event → ℕ
amount (Accepted n o) = 0
amount (Replaced n l q p) = 0
amount (Withdrawn n q) = q
amount (Canceled n q) = q
amount (Decremented n q) = q
amount (Traded n m q l) = q
amount (Killed n q) = q
amount (Expired n q) = q

abbrev pub level_of : Event → ℕ
level_of (Accepted n o) = 0
level_of (Replaced n l q p) = 0
level_of (Withdrawn n q) = 0
level_of (Canceled n q) = 0
level_of (Decremented n q) = 0
level_of (Traded n m q l) = l
level_of (Killed n q) = 0
level_of (Expired n q) = 0

-- what it takes is open, and the level is in range
pub record May (e : Event) (o : Order) : Type 0 where
  pub enough : amount e ≤ open_of o
  pub priced : level_of e ≤ 1_999_999_999

-- an event is ready to happen: its order is there, in its ranges, and may be changed so; and the same of events in turn
pub record Ready (b : Book) (e : Event) : Type 0 where
  pub inside : In b (who e)
  pub sound : Sound (at b (who e))
  pub may : May e (at b (who e))

abbrev pub Readies : Book → List Event → Type 0
Readies b [] = Unit {0}
Readies b (e ∷ es) = Ready b e × Readies (after b e) es

-- the number that a new order takes: the next one of the book, or that of an order with nothing open, which is gone then (document
-- 02, T-09)
pub data Takes (b : Book) (n : ℕ) : Type 0 where
  anew : n ≡ suc (length b) → Takes b n
  over : In b n → open_of (at b n) ≡ 0 → Takes b n

-- what Submit asks of a new order: a number that it may take, the next report number for its place, all fields in range, nothing
-- executed, decremented or canceled, room in the table and numbers left
pub record Enters (listed : ℕ → Bool) (next : ℕ) (b : Book) (n : ℕ) (o : Order) : Type 0 where
  pub number : Takes b n
  pub sound : Sound o
  pub unexecuted : o.executed ≡ 0
  pub undecremented : o.decremented ≡ 0
  pub uncanceled : o.canceled ≡ 0
  pub unsummed : o.sum ≡ 0
  pub owned : (eqb o.mpid 0 || listed o.mpid) ≡ true
  pub newest : o.place ≡ next
  pub filled : length b ≤ 255
  pub free : n ≤ 255
  pub numbered : next ≤ 999_998_976

-- what it asks of a replacement: an order with something open, a quantity above what is executed and decremented, and the next
-- report number for the place that it may take
pub record Renews (next : ℕ) (b : Book) (n l q p : ℕ) : Type 0 where
  pub inside : In b n
  pub live : 0 < open_of (at b n)
  pub above : (at b n).executed + (at b n).decremented < q
  pub qty_high : q ≤ 999_999_999
  pub level_low : 0 < l
  pub level_high : l ≤ 1_999_999_999
  pub newest : p ≡ next
  pub place_low : 0 < p
  pub filled : length b ≤ 255
  pub numbered : next ≤ 999_998_976
