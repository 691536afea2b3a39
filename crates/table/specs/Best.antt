-- The best level of each side as the heading keeps it (document 02, T-06): its level, its total and its number of orders are
-- what Depth answers for k = 0; a side without one, and both sides while an order is in work, have zeros. Reading any table gives
-- something; writing changes the named bytes alone. Assumes nothing: whether what is read is true is said in Market.
use Rattle.std.specs.Prelude.{cond, List, ◌++◌, ℕ, Option, Some, None, eqb, get_or, replicate}
use Rattle.octets.specs.Octets.{le_at, bytes_of, put}
use Rattle.matching.specs.Matching.{Book, buys}
use Rattle.matching.specs.Depth.{total, orders, depth}
use Rattle.matching.specs.declared.Level.{Level}
use Rattle.table.specs.Places.{best_byte, best_bytes, buy_orders_byte, sell_orders_byte, buy_level_byte, sell_level_byte, buy_total_byte, sell_total_byte}
use Rattle.table.specs.Heading.{work_of}
use Rattle.table.specs.Orders.{book_of}

-- ---- in the book

-- an answer of Depth in numbers: no level is zeros
abbrev pub in_numbers : Option Level → Level
in_numbers (Some b) = b
in_numbers None = record { level = 0; total = 0; orders = 0 }

-- and back: a level without orders is none
unfoldable pub in_words : Level → Option Level
in_words b = cond (eqb b.orders 0) None (Some b)

-- the best level of side s of a book
unfoldable pub best_on : Book → ℕ → Level
best_on b s = in_numbers (depth b s 0)

-- what stands on level l of side s
unfoldable pub stands_on : Book → ℕ → ℕ → Level
stands_on b s l = record { level = l; total = total b s l; orders = orders b s l }

-- ---- reading

-- the best level of side s that the heading keeps
unfoldable pub best_at : List ℕ → ℕ → Level
best_at t s =
    record {
      level = le_at 4 t (cond (buys s) buy_level_byte sell_level_byte);
      total = le_at 8 t (cond (buys s) buy_total_byte sell_total_byte);
      orders = get_or t (cond (buys s) buy_orders_byte sell_orders_byte) 0;
    }

-- ---- writing

-- the numbers of orders, the levels and the totals of the two sides, each with the unused bytes behind them
unfoldable pub orders_bytes : Level → Level → List ℕ
orders_bytes buy sell = bytes_of 1 buy.orders ++ (bytes_of 1 sell.orders ++ replicate 1 0)

unfoldable pub levels_bytes : Level → Level → List ℕ
levels_bytes buy sell = bytes_of 4 buy.level ++ (bytes_of 4 sell.level ++ replicate 4 0)

unfoldable pub totals_bytes : Level → Level → List ℕ
totals_bytes buy sell = bytes_of 8 buy.total ++ bytes_of 8 sell.total

-- all bytes of the best levels
unfoldable pub best_row : Level → Level → List ℕ
best_row buy sell = orders_bytes buy sell ++ (levels_bytes buy sell ++ totals_bytes buy sell)

-- those of the best levels of the book
unfoldable pub book_row : List ℕ → List ℕ
book_row t = best_row (best_on (book_of t) 1) (best_on (book_of t) 2)

-- those that the heading is to have
unfoldable pub best_due : List ℕ → List ℕ
best_due t = cond (eqb (work_of t) 0) (book_row t) (replicate best_bytes 0)

-- the best levels of the book, and none
abbrev pub put_best : List ℕ → List ℕ
put_best t = put t best_byte (book_row t)

abbrev pub clear_best : List ℕ → List ℕ
clear_best t = put t best_byte (replicate best_bytes 0)
