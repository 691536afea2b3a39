-- The rehearsed books (document 01, "Rehearsed books"), two more on replacements and eight on minimums: how their orders are written,
-- and what is shown of each. Every case is one statement over any book that is the one written here. Assumes nothing.
use Rattle.std.specs.Prelude.{◌≡◌, List, [], ◌∷◌, ◌++◌, map, ℕ, ◌+◌, ◌-◌}
use Rattle.decimal.specs.declared.Instrument.TheVariants.{Bonds}
use Rattle.decimal.specs.Writing.{mean_text, mean_of}
use Rattle.matching.specs.declared.Order.{Order}
use Rattle.matching.specs.declared.Event.{Event}
use Rattle.matching.specs.declared.Event.TheVariants.{Accepted, Replaced, Traded, Canceled, Decremented, Killed, Expired}
use Rattle.matching.specs.Matching.{Book, at, open_of, play, run, misses}
use Rattle.matching.specs.Accounts.{tally, trades, decrements, cancels}

-- a yield of n thousandths, and of minus n thousandths, as a level
abbrev pub yield : ℕ → ℕ
yield n = 1_000_000_000 + n

abbrev pub minus : ℕ → ℕ
minus n = 1_000_000_000 - n

-- an order just accepted: side, quantity, level, place, MPID, time in force, MinQty
abbrev pub new : ℕ → ℕ → ℕ → ℕ → ℕ → ℕ → ℕ → Order
new s q l p m t least =
    record { side = s; tif = t; level = l; qty = q; executed = 0; decremented = 0; canceled = 0; sum = 0; place = p; mpid = m; minqty = least }

-- a sell and a buy, Day: quantity, level, place, MPID; a buy, IOC; the same with a MinQty; and a buy, Fill or Kill
abbrev pub sell : ℕ → ℕ → ℕ → ℕ → Order
sell q l p m = new 2 q l p m 0 0

abbrev pub buy : ℕ → ℕ → ℕ → ℕ → Order
buy q l p m = new 1 q l p m 0 0

abbrev pub buy_ioc : ℕ → ℕ → ℕ → ℕ → Order
buy_ioc q l p m = new 1 q l p m 3 0

abbrev pub buy_at_least : ℕ → ℕ → ℕ → ℕ → ℕ → Order
buy_at_least least q l p m = new 1 q l p m 3 least

abbrev pub buy_fok : ℕ → ℕ → ℕ → ℕ → Order
buy_fok q l p m = new 1 q l p m 4 0

-- book R and one order more, number 5; A is MPID 10
abbrev pub book_r : Order → Book
book_r o = sell 100 (yield 101) 1 11 ∷ sell 200 (yield 100) 2 12 ∷ sell 200 (yield 100) 3 10 ∷ sell 500 (yield 100) 4 13 ∷ o ∷ []

-- a trade of q at level l between r, resting, and w, in work, and what comes after it
abbrev pub trade : ℕ → ℕ → ℕ → ℕ → List Event → List Event
trade r w q l es = Traded r w q l ∷ Traded w r q l ∷ es

-- ---- the printed books and events

-- A buys 1,200 into book R. Under mode 1: trades of 100 and 200, then 900 canceled
abbrev pub book_a : Book
book_a = book_r (buy 1200 (yield 100) 5 10)

abbrev pub events1 : List Event
events1 = trade 1 5 100 (yield 101) (trade 2 5 200 (yield 100) (Canceled 5 900 ∷ []))

-- mode 2: trades of 100 and 200, A's sell canceled, a trade of 500
abbrev pub events2 : List Event
events2 = trade 1 5 100 (yield 101) (trade 2 5 200 (yield 100) (Canceled 3 200 ∷ trade 4 5 500 (yield 100) []))

-- mode 3: as under mode 2, with the buy decremented by 200
abbrev pub events3 : List Event
events3 = trade 1 5 100 (yield 101) (trade 2 5 200 (yield 100) (Canceled 3 200 ∷ Decremented 5 200 ∷ trade 4 5 500 (yield 100) []))

-- A's sell of 200 alone, and A buys 200: both canceled, the resting one first
abbrev pub book4 : Book
book4 = sell 200 (yield 100) 1 10 ∷ buy 200 (yield 100) 2 10 ∷ []

abbrev pub events4 : List Event
events4 = Canceled 1 200 ∷ Canceled 2 200 ∷ []

-- the same, A buys 50: the buy canceled, then the sell decremented by 50
abbrev pub book5 : Book
book5 = sell 200 (yield 100) 1 10 ∷ buy 50 (yield 100) 2 10 ∷ []

abbrev pub events5 : List Event
events5 = Canceled 2 50 ∷ Decremented 1 50 ∷ []

-- two orders with no MPID that meet: a trade
abbrev pub book6 : Book
book6 = sell 200 (yield 100) 1 0 ∷ buy 50 (yield 100) 2 0 ∷ []

abbrev pub events6 : List Event
events6 = trade 1 2 50 (yield 100) []

-- MPID 14 buys 1,200 IOC into book R: trades of 1,000, and 200 expire
abbrev pub book7 : Book
book7 = book_r (buy_ioc 1200 (yield 100) 5 14)

abbrev pub events7 : List Event
events7 = trade 1 5 100 (yield 101) (trade 2 5 200 (yield 100) (trade 3 5 200 (yield 100) (trade 4 5 500 (yield 100) (Expired 5 200 ∷ []))))

-- a sell at 0.101, a buy at 0.102
abbrev pub book8 : Book
book8 = sell 100 (yield 101) 1 11 ∷ buy 100 (yield 102) 2 12 ∷ []

-- a sell and a buy at -0.005: a trade at -0.005
abbrev pub book9 : Book
book9 = sell 100 (minus 5) 1 11 ∷ buy 100 (minus 5) 2 12 ∷ []

abbrev pub events9 : List Event
events9 = trade 1 2 100 (minus 5) []

-- five sells of 999,999,999 at 0.100
abbrev pub book10 : Book
book10 =
    sell 999_999_999 (yield 100) 1 0 ∷ sell 999_999_999 (yield 100) 2 0 ∷ sell 999_999_999 (yield 100) 3 0
    ∷ sell 999_999_999 (yield 100) 4 0
    ∷ sell 999_999_999 (yield 100) 5 0
    ∷ []

-- 1 at 0.100 and 2 at 0.101, and a buy of 3
abbrev pub book11 : Book
book11 = sell 1 (yield 100) 1 11 ∷ sell 2 (yield 101) 2 11 ∷ buy 3 (yield 100) 3 12 ∷ []

-- its mirror: 1 at -0.100 and 2 at -0.101, and a buy of 3
abbrev pub mirror11 : Book
mirror11 = sell 1 (minus 100) 1 11 ∷ sell 2 (minus 101) 2 11 ∷ buy 3 (minus 101) 3 12 ∷ []

-- ---- a replacement between two orders of one yield

-- two sells of 200 at 0.100; the first is replaced to a quantity at the same yield and rests; then MPID 13 buys 250 there
abbrev pub book_turn : ℕ → Book
book_turn quantity =
    play (sell 200 (yield 100) 1 11 ∷ sell 200 (yield 100) 2 12 ∷ [])
    (Replaced 1 (yield 100) quantity 3 ∷ Accepted 3 (buy 250 (yield 100) 4 13) ∷ [])

-- reduced to 150, it trades before the one that came after it
abbrev pub events_reduced : List Event
events_reduced = trade 1 3 150 (yield 100) (trade 2 3 100 (yield 100) [])

-- raised to 300, it trades behind it
abbrev pub events_raised : List Event
events_raised = trade 2 3 200 (yield 100) (trade 1 3 50 (yield 100) [])

-- ---- minimums in book R, which has 1,000 to sell at 0.100 or more

-- MPID 14 buys at 0.100, Fill or Kill
abbrev pub book_kill : ℕ → Book
book_kill quantity = book_r (buy_fok quantity (yield 100) 5 14)

-- 1,200 are not there: all of it killed
abbrev pub events_kill : List Event
events_kill = Killed 5 1200 ∷ []

-- 1,000 are: all of it trades
abbrev pub events_fill : List Event
events_fill = trade 1 5 100 (yield 101) (trade 2 5 200 (yield 100) (trade 3 5 200 (yield 100) (trade 4 5 500 (yield 100) [])))

-- A buys 1,200 IOC with a MinQty. Under mode 1 300 trade before its own sell ends it, under modes 2 and 3 800 do; one more is not
-- reached, and killed
abbrev pub book_least : ℕ → Book
book_least least = book_r (buy_at_least least 1200 (yield 100) 5 10)

-- under modes 2 and 3 the rest expires
abbrev pub events_least2 : List Event
events_least2 = events2 ++ (Expired 5 400 ∷ [])

abbrev pub events_least3 : List Event
events_least3 = events3 ++ (Expired 5 200 ∷ [])

-- ---- what is shown

-- w of book b, not decided yet and run with any budget of n steps or more, takes n steps, has the events es, and leaves open os
pub record Shows (modes : ℕ → ℕ) (b : Book) (w : ℕ) (es : List Event) (os : List ℕ) (n : ℕ) : Type 0 where
  pub events : (k : ℕ) → (run modes (misses modes 0 b w) (n + k) b w).events ≡ es
  pub left : (k : ℕ) → map open_of (run modes (misses modes 0 b w) (n + k) b w).book ≡ os
  pub steps : (k : ℕ) → (run modes (misses modes 0 b w) (n + k) b w).steps ≡ n
  pub ended : (k : ℕ) → (run modes (misses modes 0 b w) (n + k) b w).work ≡ 0

-- the line of order k over the events es from book b on: accepted, executed, decremented, canceled and open add up
pub record Line (b : Book) (es : List Event) (k accepted executed decremented canceled left : ℕ) : Type 0 where
  pub is_accepted : (at b k).qty ≡ accepted
  pub is_executed : tally trades k es ≡ executed
  pub is_decremented : tally decrements k es ≡ decremented
  pub is_canceled_lem : tally cancels k es ≡ canceled
  pub is_left : open_of (at (play b es) k) ≡ left
  pub adds_up : accepted ≡ executed + decremented + canceled + left

-- w of book b, not decided yet and run with any budget of n steps or more, ends its work and has executed at this sum of quantity times level, of
-- which the mean is AvgPx as it is written
pub record Averages (modes : ℕ → ℕ) (b : Book) (w n sum executed mean : ℕ) (text : List ℕ) : Type 0 where
  pub ended : (k : ℕ) → (run modes (misses modes 0 b w) (n + k) b w).work ≡ 0
  pub is_sum : (k : ℕ) → (at (run modes (misses modes 0 b w) (n + k) b w).book w).sum ≡ sum
  pub is_executed : (k : ℕ) → (at (run modes (misses modes 0 b w) (n + k) b w).book w).executed ≡ executed
  pub is_mean : mean_of sum executed ≡ mean
  pub is_text_lem : mean_text Bonds mean ≡ text
