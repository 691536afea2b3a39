-- The open orders of a side in turn: the best first, as an incoming order of the other side meets them (document 01, "Matching, step by
-- step": the better level first, and at one level the earlier place). Orders are told by their numbers in the book. Assumes nothing.
use Rattle.std.specs.Prelude.{ℕ, zero, suc, cond, List, [], ◌∷◌, length}
use Rattle.matching.specs.Matching.{Book, at, better}
use Rattle.matching.specs.Depth.{stands}

-- order k among orders that stand in turn: in front of the first of them that it goes before
unfoldable pub joins : Book → ℕ → List ℕ → List ℕ
joins b k [] = k ∷ []
joins b k (x ∷ xs) = cond (better (at b k) (at b x)) (k ∷ x ∷ xs) (x ∷ joins b k xs)

-- of the first n orders the open ones of side s, in turn
unfoldable pub turns_of : Book → ℕ → ℕ → List ℕ
turns_of b s zero = []
turns_of b s (suc n) = cond (stands s (at b (suc n))) (joins b (suc n) (turns_of b s n)) (turns_of b s n)

-- the open orders of side s, in turn
unfoldable pub in_turn : Book → ℕ → List ℕ
in_turn b s = turns_of b s (length b)
