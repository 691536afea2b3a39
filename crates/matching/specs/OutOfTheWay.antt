-- One's own orders are out of the way (document 02, T-10): the open orders of a side of one book are those of another, in the same turn,
-- less the ones of an MPID. What is compared then, of an order in work on both: who it traded with, how much and at which level, what
-- is left of it and what of it was given back. Orders of two books have numbers of their own, so an order is told by a name that each
-- book gives to its numbers: on a table, the ClOrdID. Assumes nothing.
use Rattle.std.specs.Prelude.{◌≡◌, Bool, true, false, cond, not, ◌&&◌, List, [], ◌∷◌, ◌++◌, map, ℕ, ◌+◌, ltb, eqb}
use Rattle.matching.specs.declared.Order.{Order}
use Rattle.matching.specs.declared.Event.{Event}
use Rattle.matching.specs.declared.Event.TheVariants.{Accepted, Replaced, Withdrawn, Canceled, Decremented, Traded, Killed, Expired}
use Rattle.matching.specs.Matching.{Book, at, open_of, is_buy, minimum_of, Ran}
use Rattle.matching.specs.Depth.{stands}
use Rattle.matching.specs.InTurn.{in_turn}

-- ---- the others on the other side

-- of a list those that a test holds of, in the same order
unfoldable pub those : {A : Type 0} → (A → Bool) → List A → List A
those keep [] = []
those keep (x ∷ xs) = cond (keep x) (x ∷ those keep xs) (those keep xs)

-- the side that an order is matched with: 1 the buys, 2 the sells
unfoldable pub facing : Order → ℕ
facing o = cond (is_buy o) 2 1

-- an order of this MPID; 0 is no MPID
unfoldable pub is_of : ℕ → Order → Bool
is_of mpid o = ltb 0 mpid && eqb mpid o.mpid

-- the open orders of a side in turn, less the ones of an MPID
unfoldable pub others_on : Book → ℕ → ℕ → List ℕ
others_on b side mpid = those (λ k. not (is_of mpid (at b k))) (in_turn b side)

-- a quantity of somebody's order at a level: offered by it, or traded with it
pub record Lot (A : Type 0) : Type 0 where
  pub whose : A
  pub level : ℕ
  pub quantity : ℕ

-- what an order of the book offers
abbrev pub lot_of : {A : Type 0} → (ℕ → A) → Book → ℕ → Lot A
lot_of name b k = record { whose = name k; level = (at b k).level; quantity = open_of (at b k) }

-- ---- two books

-- of an MPID no order is open on this side of c, and the others that are open there are those of b, in the same turn, with the same levels
-- and quantities open
pub record OutOfTheWay {A : Type 0} (side mpid : ℕ) (name : ℕ → A) (b : Book) (title : ℕ → A) (c : Book) : Type 0 where
  pub clear : (k : ℕ) → stands side (at c k) ≡ true → is_of mpid (at c k) ≡ false
  pub others : map (lot_of title c) (in_turn c side) ≡ map (lot_of name b) (others_on b side mpid)

-- the same order: side, level, time in force, minimum, MPID and what is open
pub record SameOrder (o p : Order) : Type 0 where
  pub side : o.side ≡ p.side
  pub level : o.level ≡ p.level
  pub tif : o.tif ≡ p.tif
  pub minimum : minimum_of o ≡ minimum_of p
  pub mpid : o.mpid ≡ p.mpid
  pub quantity : open_of o ≡ open_of p

-- ---- what a run comes to

-- a trade of w with another order, told of that one
abbrev pub fill : {A : Type 0} → (ℕ → A) → ℕ → Event → List (Lot A)
fill name w (Accepted n o) = []
fill name w (Replaced n l q p) = []
fill name w (Withdrawn n q) = []
fill name w (Canceled n q) = []
fill name w (Decremented n q) = []
fill name w (Traded n m q l) = cond (eqb n w) [] (record { whose = name n; level = l; quantity = q } ∷ [])
fill name w (Killed n q) = []
fill name w (Expired n q) = []

-- all of them in turn
unfoldable pub fills : {A : Type 0} → (ℕ → A) → ℕ → List Event → List (Lot A)
fills name w [] = []
fills name w (e ∷ es) = fill name w e ++ fills name w es

-- what an event gives back of an order that may not rest: its rest, or all of it for want of its minimum
abbrev pub lapse : Event → ℕ
lapse (Accepted n o) = 0
lapse (Replaced n l q p) = 0
lapse (Withdrawn n q) = 0
lapse (Canceled n q) = 0
lapse (Decremented n q) = 0
lapse (Traded n m q l) = 0
lapse (Killed n q) = q
lapse (Expired n q) = q

unfoldable pub lapsed : List Event → ℕ
lapsed [] = 0
lapsed (e ∷ es) = lapse e + lapsed es

-- the same trades in turn, the same quantity left, and the same given back
pub record SameFills {A : Type 0} (name : ℕ → A) (w : ℕ) (r : Ran) (title : ℕ → A) (v : ℕ) (s : Ran) : Type 0 where
  pub trades : fills title v s.events ≡ fills name w r.events
  pub left : open_of (at s.book v) ≡ open_of (at r.book w)
  pub back : lapsed s.events ≡ lapsed r.events
