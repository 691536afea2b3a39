-- What an order would trade, found by looking at the book as it stands: the orders that it meets are put in their turn, and the
-- quantities open up to a turn are added up. That this is what the steps execute is proved (proofs/Looking), so nothing here
-- need be believed. Assumes nothing.
use Rattle.std.specs.Prelude.{ℕ, zero, suc, ◌+◌, ◌-◌, ◌*◌, ◌≤◌, ◌<◌, min, Bool, cond, ◌&&◌, length, ltb, eqb}
use Rattle.matching.specs.declared.Order.{Order}
use Rattle.matching.specs.Matching.{Book, at, open_of, is_buy, faces, same_owner, sum_over}

-- ---- turns

-- the turn of an order among those of its side, earlier for the better: by level, a buy's from below and a sell's from above, and
-- at one level by place; next is above all places
unfoldable pub turn_of : ℕ → Order → ℕ
turn_of next r = cond (is_buy r) r.level (1_999_999_999 - r.level) * next + r.place

-- behind every turn
unfoldable pub end_of : ℕ → ℕ
end_of next = 2_000_000_000 * next

-- ---- quantities

-- what r offers to o: what it has open, if o meets it
unfoldable pub offered : Order → Order → ℕ
offered o r = cond (faces o r) (open_of r) 0

-- the same of an order that is not of o's owner
unfoldable pub tradable : Order → Order → ℕ
tradable o r = cond (same_owner o r) 0 (offered o r)

-- f of the orders whose turn is before x, added up
unfoldable pub sum_before : ℕ → (Order → ℕ) → Book → ℕ → ℕ
sum_before next f b x = sum_over (λ r. cond (ltb (turn_of next r) x) (f r) 0) b (length b)

-- what w is offered before turn x, by all and by those that are not of its owner
unfoldable pub offered_to : ℕ → Book → ℕ → ℕ → ℕ
offered_to next b w x = sum_before next (offered (at b w)) b x

unfoldable pub tradable_to : ℕ → Book → ℕ → ℕ → ℕ
tradable_to next b w x = sum_before next (tradable (at b w)) b x

-- ---- where to look

-- r is met by o and of its owner
unfoldable pub own : Order → Order → Bool
own o r = faces o r && same_owner o r

-- the turn of the first order of o's owner among the first n that o meets; the end if there is none
unfoldable pub own_turn : ℕ → Order → Book → ℕ → ℕ
own_turn next o b zero = end_of next
own_turn next o b (suc n) = cond (own o (at b (suc n))) (min (turn_of next (at b (suc n))) (own_turn next o b n)) (own_turn next o b n)

-- what is open of w reaches to turn x: what is offered before it does not exceed it, what is offered up to it does
pub record Reaches (next : ℕ) (b : Book) (w x : ℕ) : Type 0 where
  pub enough : offered_to next b w x ≤ open_of (at b w)
  pub spent : x < end_of next → open_of (at b w) < offered_to next b w (x + 1)

-- ---- what is found

-- what w trades if it can trade with all that is tradable before x
unfoldable pub traded_to : ℕ → Book → ℕ → ℕ → ℕ
traded_to next b w x = min (open_of (at b w)) (tradable_to next b w x)

-- what w trades if it reaches to x and its owner's orders take their share of it: with those before x, and with the one at x
-- what is left
unfoldable pub traded_at : ℕ → Book → ℕ → ℕ → ℕ
traded_at next b w x = min (tradable_to next b w x + (open_of (at b w) - offered_to next b w x)) (tradable_to next b w (x + 1))

-- by the mode: under 1 up to the first order of one's own; under 2 all; under any other as far as w reaches, which is x
unfoldable pub looked : ℕ → ℕ → Book → ℕ → ℕ → ℕ
looked mode next b w x =
    cond (eqb mode 1) (traded_to next b w (own_turn next (at b w) b (length b)))
    (cond (eqb mode 2) (traded_to next b w (end_of next))
    (traded_at next b w x))
