-- Which events can happen to a book, one after another: those that move an amount of an order that is there, and the
-- acceptances and replacements that a message asks for. Every call of the market makes such a list. Assumes nothing.
use Rattle.std.specs.Prelude.{◌≡◌, Bool, true, false, List, [], ◌∷◌, ◌⊎◌, ℕ, ◌+◌, ◌≤◌, ◌<◌}
use Rattle.matching.specs.declared.Order.{Order}
use Rattle.matching.specs.declared.Event.{Event}
use Rattle.matching.specs.declared.Event.TheVariants.{Accepted, Replaced, Withdrawn, Canceled, Decremented, Traded, Killed, Expired}
use Rattle.matching.specs.Matching.{Book, at, open_of, who, after}
use Rattle.matching.specs.Accounts.{cancels}
use Rattle.matching.specs.Held.{In, Takes, amount}

-- an event that moves an amount of an order that is there: all but an acceptance and a replacement do
abbrev pub moves : Event → Bool
moves (Accepted n o) = false
moves (Replaced n l q p) = false
moves (Withdrawn n q) = true
moves (Canceled n q) = true
moves (Decremented n q) = true
moves (Traded n m q l) = true
moves (Killed n q) = true
moves (Expired n q) = true

-- its order is in the book and has the amount open; what is canceled is all that is open
pub record Fit (b : Book) (e : Event) : Type 0 where
  pub moving : moves e ≡ true
  pub inside : In b (who e)
  pub enough : amount e ≤ open_of (at b (who e))
  pub whole : 0 < cancels e → cancels e ≡ open_of (at b (who e))

-- the same of events one after another
abbrev pub Fits : Book → List Event → Type 0
Fits b [] = Unit {0}
Fits b (e ∷ es) = Fit b e × Fits (after b e) es

-- a new order: a number that it may take, and nothing executed, decremented or canceled
pub record Fresh (b : Book) (n : ℕ) (o : Order) : Type 0 where
  pub number : Takes b n
  pub unexecuted : o.executed ≡ 0
  pub undecremented : o.decremented ≡ 0
  pub uncanceled : o.canceled ≡ 0
  pub unsummed : o.sum ≡ 0

-- a replaced order: it has something open, nothing of it is canceled, and the new quantity is above what is executed and
-- decremented
pub record Renewed (b : Book) (n q : ℕ) : Type 0 where
  pub inside : In b n
  pub live : 0 < open_of (at b n)
  pub uncanceled : (at b n).canceled ≡ 0
  pub above : (at b n).executed + (at b n).decremented < q

-- what a message asks for
abbrev pub Asked : Book → Event → Type 0
Asked b (Accepted n o) = Fresh b n o
Asked b (Replaced n l q p) = Renewed b n q
Asked b (Withdrawn n q) = ⊥
Asked b (Canceled n q) = ⊥
Asked b (Decremented n q) = ⊥
Asked b (Traded n m q l) = ⊥
Asked b (Killed n q) = ⊥
Asked b (Expired n q) = ⊥

-- events that can happen one after another
abbrev pub Follow : Book → List Event → Type 0
Follow b [] = Unit {0}
Follow b (e ∷ es) = (Fit b e ⊎ Asked b e) × Follow (after b e) es
