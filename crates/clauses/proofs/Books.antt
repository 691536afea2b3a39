-- The tables that definitions are run on: a market just opened (venue V, port P, code 350, first number 1, MPIDs 10 to 14); book R
-- with a buy in work, A being MPID 10 and having this mode, all others mode 1; book R with a buy that rests, and five large buys; a
-- table of 255 records, and one whose record 1 an order has left. These are of bonds; of equities a market just opened (symbol 7203.T)
-- and a book of every kind of sell with a buy in work.
use mathlib.Core.List.{List, [], ◌∷◌, ◌++◌}
use Prim.Native.Nat.{ℕ, zero, suc, ◌-◌}
use lib.ListN.{set, take}
use Rattle.matching.specs.declared.Order.{Order}
use Rattle.decimal.specs.declared.Instrument.TheVariants.{Bonds, Equities}
use Rattle.matching.specs.Rehearsed.{yield, new, sell, buy, buy_at_least, buy_fok}
use Rattle.table.specs.declared.record.Marks.{Marks}
use Rattle.table.specs.Heading.{put_work, put_next}
use Rattle.table.specs.Orders.{record_of, accepted}
use Rattle.table.specs.Best.{put_best}
use Rattle.table.specs.Opened.{fresh_table}
use Rattle.octets.specs.Characters.{message}

-- the marks of an order: for its firm's own account, classification 1, this CashMargin and this MarginCode
abbrev pub marked : ℕ → ℕ → Marks
marked cash margin = record { capacity = 65; class = 1; cash = cash; margin = margin }

-- those of a bond order
abbrev pub plain : Marks
plain = marked 0 0

abbrev pub fresh : ℕ → List ℕ
fresh mode = fresh_table Bonds (message "V") (message "P") (message "350") 1 (10 ∷ 11 ∷ 12 ∷ 13 ∷ 14 ∷ []) (mode ∷ 1 ∷ 1 ∷ 1 ∷ 1 ∷ [])

-- sells of 100 at 0.101 (MPID 11), and at 0.100 of 200 (12), 200 (A) and 500 (13)
abbrev sells : ℕ → List ℕ
sells mode =
    accepted (accepted (accepted (accepted (fresh mode)
    1 1 (message "a") [] plain (sell 100 (yield 101) 1 11))
    2 2 (message "b") [] plain (sell 200 (yield 100) 2 12))
    3 3 (message "c") [] plain (sell 200 (yield 100) 3 10))
    4 4 (message "d") [] plain (sell 500 (yield 100) 4 13)

-- then o is accepted and in work
abbrev with : ℕ → Order → List ℕ
with mode o = put_work (put_next (accepted (sells mode) 5 5 (message "e") [] plain o) 6) 5 (message "20260105-09:00:00")

-- A buys 1,200 at 0.100, a Day order
abbrev pub book_r : ℕ → List ℕ
book_r mode = with mode (buy 1200 (yield 100) 5 10)

-- the same, where the orders of records 1, 3 and 5 were accepted in another order: their OrderIDs are 3, 5 and 1
abbrev pub mixed : ℕ → List ℕ
mixed mode = set (set (set (book_r mode) 212 3) 468 5) 724 1

-- A buys 1,200 at 0.100, IOC with this MinQty
abbrev pub book_least : ℕ → ℕ → List ℕ
book_least mode least = with mode (buy_at_least least 1200 (yield 100) 5 10)

-- MPID 14 buys 1,200 at 0.100, Fill or Kill
abbrev pub book_kill : List ℕ
book_kill = with 1 (buy_fok 1200 (yield 100) 5 14)

-- ---- tables with nothing in work

-- the four sells, and a buy of 300 at 0.102 by MPID 14
abbrev pub rested : List ℕ
rested = put_best (put_next (accepted (sells 1) 5 5 (message "e") [] plain (buy 300 (yield 102) 5 14)) 6)

-- five buys of 999,999,999 at 0.100
abbrev large : ℕ → Order
large place = buy 999999999 (yield 100) place 10

abbrev pub largest : List ℕ
largest =
    put_best (put_next
    (accepted (accepted (accepted (accepted (accepted (fresh 1)
    1 1 (message "a") [] plain (large 1))
    2 2 (message "b") [] plain (large 2))
    3 3 (message "c") [] plain (large 3))
    4 4 (message "d") [] plain (large 4))
    5 5 (message "e") [] plain (large 5))
    6)

-- ---- records that a new order may take

-- a sell of 100, IOC with a MinQty, of which nothing is open
abbrev ended : Order
ended = record { side = 2; tif = 3; level = yield 100; qty = 100; executed = 0; decremented = 0; canceled = 100; sum = 0; place = 1; mpid = 11; minqty = 50 }

-- n times these bytes
abbrev times : ℕ → List ℕ → List ℕ
times zero r = []
times (suc n) r = r ++ times n r

-- records of an open order and of one with nothing open
abbrev live : List ℕ
live = record_of 1 (message "x") [] plain (sell 100 (yield 100) 1 11)

abbrev dead : List ℕ → List ℕ
dead cl_ord_id = record_of 1 cl_ord_id (message "ACC-1") plain ended

-- 255 records, of which 2 and 4 have nothing open; it is no market, since the open ones have one ClOrdID
abbrev pub full : List ℕ
full = take 128 (fresh 1) ++ (live ++ (dead (message "y") ++ (live ++ (dead (message "z") ++ times 251 live))))

-- record 1 has an order with nothing open
abbrev pub left : List ℕ
left = accepted (fresh 1) 1 1 (message "OLD-1") (message "ACC-1") (record { capacity = 80; class = 6; cash = 0; margin = 0 }) ended

-- after a buy without an account is accepted as record 1, with OrderID 2
abbrev pub over : List ℕ → List ℕ
over t = accepted t 1 2 (message "b") [] plain (buy 100 (yield 100) 2 10)

-- ---- equities

-- a price of n tenths as a level
abbrev pub price : ℕ → ℕ
price n = 1_000_000_000 - n

abbrev pub fresh_shares : List ℕ
fresh_shares = fresh_table Equities (message "V") (message "P") (message "7203.T") 1 (10 ∷ 11 ∷ 12 ∷ 13 ∷ 14 ∷ []) (1 ∷ 1 ∷ 1 ∷ 1 ∷ 1 ∷ [])

-- a sell of 100 at 100.1 (MPID 11, on margin), and at 100.0 a short one of 200 (12, by cash) and an exempt one of 300 (13, on margin); a buy
-- of 600 at 100.1 by MPID 14 is in work
abbrev pub shares : List ℕ
shares =
    put_work (put_next (accepted (accepted (accepted (accepted fresh_shares
    1 1 (message "a") [] (marked 3 2) (sell 100 (price 1001) 1 11))
    2 2 (message "b") [] (marked 1 0) (new 5 200 (price 1000) 2 12 0 0))
    3 3 (message "c") [] (marked 2 1) (new 6 300 (price 1000) 3 13 0 0))
    4 4 (message "d") [] (marked 2 0) (buy 600 (price 1001) 4 14)) 5) 4 (message "20260105-09:00:00")
