-- What matching does not do with a minimum: each wrong answer that docs/PROMISES.md names, on book R. It has 1,000 to sell at 0.100 or
-- more, 200 of them A's; A is MPID 10 and buys 1,200 IOC with a MinQty, MPID 14 buys Fill or Kill. All MPIDs have one mode.
use mathlib.Core.Path.{◌≡◌, refl}
use mathlib.Core.Bool.{Bool, true, false}
use mathlib.Core.List.{[], ◌∷◌, map}
use Prim.Native.Nat.{ℕ}
use Rattle.matching.specs.Matching.{Book, at, open_of, meets, better, faces, same_owner, choose, best, partner, prevention, meeting, ending, outcome, preventing, causes, change, after, play, happens, work_after, Ran, run, minimum_of, would_trade, misses, decided_after}
use Rattle.matching.specs.Rehearsed.{yield, buy_at_least, book_r, book_kill, events_kill, events_fill, book_least, events_least3}

-- opens all definitions
computes : ℕ
unfolding open_of meets better faces same_owner choose best partner prevention meeting ending outcome preventing causes change after play happens work_after run minimum_of would_trade misses decided_after
computes = 0

-- the order in work is number 5; n steps of it, where it is not decided yet, and whether it would miss its minimum
abbrev steps : ℕ → ℕ → Book → Ran
steps mode n b = run (λ k. mode) (misses (λ k. mode) 0 b 5) n b 5

abbrev missed : ℕ → Book → Bool
missed mode b = misses (λ k. mode) 0 b 5

-- ---- the decision is made once

-- when two steps have traded 300 of the 800 that are asked for, 500 would still trade: asked again, the order would be killed
abbrev halfway : Book
halfway = (steps 3 2 (book_least 800)).book

left_to_trade : would_trade (λ k. 3) halfway 5 ≡ 500
unfolding computes
left_to_trade = refl

asked_again : missed 3 halfway ≡ true
unfolding computes
asked_again = refl

-- it is not asked again: it is decided, and the steps run to their end
decided : decided_after (book_least 800) 5 ≡ 1
unfolding computes
decided = refl

asked_once : misses (λ k. 3) 1 halfway 5 ≡ false
unfolding computes
asked_once = refl

goes_on : (steps 3 256 (book_least 800)).events ≡ events_least3
unfolding computes
goes_on = refl

-- ---- orders of one's own are not tradable

-- with A's sell there would be 1,000 for 801; and under mode 1 what lies behind it is out of reach of 301
own_uncounted : missed 3 (book_least 801) ≡ true
unfolding computes
own_uncounted = refl

own_passed : missed 2 (book_least 801) ≡ true
unfolding computes
own_passed = refl

own_ends : missed 1 (book_least 301) ≡ true
unfolding computes
own_ends = refl

-- under mode 3 they use up what is bought: of 800, 300 trade, A's sell takes 200, and 300 trade behind it
own_uses_up : would_trade (λ k. 3) (book_r (buy_at_least 601 800 (yield 100) 5 10)) 5 ≡ 600
unfolding computes
own_uses_up = refl

-- a minimum that is just reached is reached
just_reached : missed 3 (book_least 800) ≡ false
unfolding computes
just_reached = refl

-- ---- a kill touches no order but its own

-- A's sell of 200 is the third; under modes 2 and 3 the steps would cancel it
own_untouched : map open_of (steps 3 256 (book_least 801)).book ≡ 100 ∷ 200 ∷ 200 ∷ 500 ∷ 0 ∷ []
unfolding computes
own_untouched = refl

own_kept : map open_of (steps 2 256 (book_least 801)).book ≡ 100 ∷ 200 ∷ 200 ∷ 500 ∷ 0 ∷ []
unfolding computes
own_kept = refl

-- ---- a Fill or Kill has a minimum, its whole quantity

minimum_whole : minimum_of (at (book_kill 1200) 5) ≡ 1200
unfolding computes
minimum_whole = refl

kill_missed : missed 1 (book_kill 1200) ≡ true
unfolding computes
kill_missed = refl

killed : (steps 1 256 (book_kill 1200)).events ≡ events_kill
unfolding computes
killed = refl

-- 1,000 trade
filled : (steps 1 256 (book_kill 1000)).events ≡ events_fill
unfolding computes
filled = refl
