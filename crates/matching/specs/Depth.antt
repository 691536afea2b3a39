-- Depth: the levels of a side from the best, each with its total open quantity and its number of orders (document 01,
-- "The table and its calls", Depth). Totals are sums of naturals, so nothing wraps. Only orders with something open count.
-- A level of 0 is no level. Assumes nothing.
use Rattle.std.specs.Prelude.{ℕ, zero, suc, ◌+◌, Bool, cond, not, ◌&&◌, ◌||◌, length, eqb, Option, Some, None}
use Rattle.matching.specs.declared.Order.{Order}
use Rattle.matching.specs.declared.Level.{Level}
use Rattle.matching.specs.Matching.{Book, at, open_of, is_open, is_buy, buys, ahead, sum_over, count_of}

-- an order of side s, 1 the buys and any other the sells; an open one
abbrev pub on_side : ℕ → Order → Bool
on_side s o = cond (buys s) (is_buy o) (not (is_buy o))

unfoldable pub stands : ℕ → Order → Bool
stands s o = is_open o && on_side s o

-- level l comes behind level x, seen from the best; behind level 0 comes any
unfoldable pub behind : ℕ → ℕ → ℕ → Bool
behind s x l = eqb x 0 || ahead (buys s) x l

-- of level c, found so far (0 for none), and the level of o, the nearer to the best behind x
unfoldable pub nearer : ℕ → ℕ → ℕ → Order → ℕ
nearer s x c o = cond (stands s o && behind s x o.level && (eqb c 0 || ahead (buys s) o.level c)) o.level c

-- among the first n orders the best level of side s behind x; 0 if there is none
unfoldable pub next : Book → ℕ → ℕ → ℕ → ℕ
next b s x zero = 0
next b s x (suc n) = nearer s x (next b s x n) (at b (suc n))

-- the k-th level of side s from the best, k from 0; 0 if there is no such level
unfoldable pub level_at : Book → ℕ → ℕ → ℕ
level_at b s zero = next b s 0 (length b)
level_at b s (suc k) = cond (eqb (level_at b s k) 0) 0 (next b s (level_at b s k) (length b))

-- an open order of side s at level l
unfoldable pub on_level : ℕ → ℕ → Order → Bool
on_level s l o = stands s o && eqb o.level l

-- what an order adds to the total of level l of side s
unfoldable pub share : ℕ → ℕ → Order → ℕ
share s l o = cond (on_level s l o) (open_of o) 0

-- the total open quantity of a level, and its number of orders
unfoldable pub total : Book → ℕ → ℕ → ℕ
total b s l = sum_over (share s l) b (length b)

unfoldable pub orders : Book → ℕ → ℕ → ℕ
orders b s l = count_of (on_level s l) b (length b)

-- Depth's answer
unfoldable pub depth : Book → ℕ → ℕ → Option Level
depth b s k =
    let l = level_at b s k in
    cond (eqb l 0) None (Some (record { level = l; total = total b s l; orders = orders b s l }))

-- what an answer says in numbers; no level counts for nothing
abbrev pub total_of : Option Level → ℕ
total_of (Some l) = l.total
total_of None = 0

abbrev pub orders_of : Option Level → ℕ
orders_of (Some l) = l.orders
orders_of None = 0

-- f of the answers for k below n, added up
unfoldable pub over_levels : (Option Level → ℕ) → Book → ℕ → ℕ → ℕ
over_levels f b s zero = 0
over_levels f b s (suc n) = over_levels f b s n + f (depth b s n)

-- all that is open on side s, and the number of its open orders
unfoldable pub open_on : Book → ℕ → ℕ
open_on b s = sum_over (λ o. cond (stands s o) (open_of o) 0) b (length b)

unfoldable pub orders_on : Book → ℕ → ℕ
orders_on b s = count_of (stands s) b (length b)
