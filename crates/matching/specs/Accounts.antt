-- What a list of events says of each order: the quantity accepted, what was executed, decremented and canceled since; and what was
-- bought and sold in all. The amounts are the events' own, so nothing here looks at a book but for the sides.
-- Assumes nothing.
use Rattle.std.specs.Prelude.{◌≡◌, ℕ, ◌+◌, cond, List, [], ◌∷◌, eqb}
use Rattle.matching.specs.declared.Event.{Event}
use Rattle.matching.specs.declared.Event.TheVariants.{Accepted, Replaced, Withdrawn, Canceled, Decremented, Traded, Killed, Expired}
use Rattle.matching.specs.Matching.{Book, at, is_buy, who}

-- the sum of f over the events of order k
unfoldable pub tally : (Event → ℕ) → ℕ → List Event → ℕ
tally f k [] = 0
tally f k (e ∷ es) = cond (eqb k (who e)) (f e) 0 + tally f k es

-- what an event executes
abbrev pub trades : Event → ℕ
trades (Accepted n o) = 0
trades (Replaced n l q p) = 0
trades (Withdrawn n q) = 0
trades (Canceled n q) = 0
trades (Decremented n q) = 0
trades (Traded n m q l) = q
trades (Killed n q) = 0
trades (Expired n q) = 0

-- what it decrements
abbrev pub decrements : Event → ℕ
decrements (Accepted n o) = 0
decrements (Replaced n l q p) = 0
decrements (Withdrawn n q) = 0
decrements (Canceled n q) = 0
decrements (Decremented n q) = q
decrements (Traded n m q l) = 0
decrements (Killed n q) = 0
decrements (Expired n q) = 0

-- what it cancels: as requested, by prevention, for want of a minimum, or of an immediate order's rest
abbrev pub cancels : Event → ℕ
cancels (Accepted n o) = 0
cancels (Replaced n l q p) = 0
cancels (Withdrawn n q) = q
cancels (Canceled n q) = q
cancels (Decremented n q) = 0
cancels (Traded n m q l) = 0
cancels (Killed n q) = q
cancels (Expired n q) = q

-- the quantity in force after an event, having been q
abbrev pub in_force : ℕ → Event → ℕ
in_force q (Accepted n o) = o.qty
in_force q (Replaced n l new p) = new
in_force q (Withdrawn n x) = q
in_force q (Canceled n x) = q
in_force q (Decremented n x) = q
in_force q (Traded n m x l) = q
in_force q (Killed n x) = q
in_force q (Expired n x) = q

-- a sum of f after an event, having been x: an acceptance begins it anew
abbrev pub sum_with : (Event → ℕ) → ℕ → Event → ℕ
sum_with f x (Accepted n o) = 0
sum_with f x (Replaced n l q p) = x + f (Replaced n l q p)
sum_with f x (Withdrawn n q) = x + f (Withdrawn n q)
sum_with f x (Canceled n q) = x + f (Canceled n q)
sum_with f x (Decremented n q) = x + f (Decremented n q)
sum_with f x (Traded n m q l) = x + f (Traded n m q l)
sum_with f x (Killed n q) = x + f (Killed n q)
sum_with f x (Expired n q) = x + f (Expired n q)

-- the sum of f over the events of order k since the last acceptance of that number, having been x before them all
unfoldable pub tallied : (Event → ℕ) → ℕ → ℕ → List Event → ℕ
tallied f k x [] = x
tallied f k x (e ∷ es) = tallied f k (cond (eqb k (who e)) (sum_with f x e) x) es

-- the accepted quantity of order k after events, having been q: that of the last acceptance or requested replacement
unfoldable pub accepted : ℕ → ℕ → List Event → ℕ
accepted k q [] = q
accepted k q (e ∷ es) = accepted k (cond (eqb k (who e)) (in_force q e) q) es

-- bought and sold in all, by the sides of the orders in b
unfoldable pub bought : Book → List Event → ℕ
bought b [] = 0
bought b (e ∷ es) = cond (is_buy (at b (who e))) (trades e) 0 + bought b es

unfoldable pub sold : Book → List Event → ℕ
sold b [] = 0
sold b (e ∷ es) = cond (is_buy (at b (who e))) 0 (trades e) + sold b es

-- no trade is between two orders of one MPID, by the owners of the orders in b: MPIDs that are the same are none (0)
pub data SelfTradeFree (b : Book) : List Event → Type 0 where
  self_trade_free : SelfTradeFree b []
  quiet : {e : Event} {es : List Event} → trades e ≡ 0 → SelfTradeFree b es → SelfTradeFree b (e ∷ es)
  apart : {n m q l : ℕ} {es : List Event} → ((at b n).mpid ≡ (at b m).mpid → (at b n).mpid ≡ 0)
      → SelfTradeFree b es → SelfTradeFree b (Traded n m q l ∷ es)
