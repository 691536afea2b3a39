-- A market as a whole: what is open in its table, of the order with an OrderID and of all orders, and what the levels that Depth answers
-- come to (document 01, "The table and its calls", Depth; document 02, T-09). Sums are of naturals, so nothing wraps. Assumes nothing.
use Rattle.std.specs.Prelude.{List, ℕ, zero, suc, ◌+◌, eqb, Option, Ok, Err}
use Rattle.decimal.specs.declared.Instrument.{Instrument}
use Rattle.matching.specs.declared.Level.{Level}
use Rattle.matching.specs.Matching.{at, open_of, is_open, sum_over, count_of}
use Rattle.table.specs.Orders.{order_id_at, filled, book_of, first_record}
use Rattle.market.specs.Depth.{DepthAnswer, depth_answer}

-- the record whose order has this OrderID; 0 if none has
unfoldable pub record_by : List ℕ → ℕ → ℕ
record_by t n = first_record (λ i. eqb (order_id_at t i) n) (filled t)

-- what is open of the order with this OrderID: nothing of one that is gone, or that never was
unfoldable pub open_by : List ℕ → ℕ → ℕ
open_by t n = open_of (at (book_of t) (record_by t n))

-- what is open of all orders, and how many orders have something open
unfoldable pub open_in : List ℕ → ℕ
open_in t = sum_over open_of (book_of t) (filled t)

unfoldable pub orders_in : List ℕ → ℕ
orders_in t = count_of is_open (book_of t) (filled t)

-- f of what Depth finds; nothing where it is refused
abbrev pub found_by : (Option Level → ℕ) → DepthAnswer → ℕ
found_by f (Ok d) = f d
found_by f (Err refusal) = 0

-- f of Depth's answers for side s and every k below n, added up
unfoldable pub over_depth : Instrument → (Option Level → ℕ) → List ℕ → ℕ → ℕ → ℕ
over_depth q f t s zero = 0
over_depth q f t s (suc n) = over_depth q f t s n + found_by f (depth_answer q t s n)
