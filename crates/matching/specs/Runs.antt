-- What is said of runs of steps: that the work ends in time, that two runs one after the other are one, and that an order was killed
-- whole. Assumes nothing.
use Rattle.std.specs.Prelude.{◌≡◌, Bool, [], ◌∷◌, ◌++◌, ◌≢◌, ℕ, ◌+◌, ◌≤◌}
use Rattle.matching.specs.declared.Event.TheVariants.{Killed}
use Rattle.matching.specs.Matching.{Book, at, open_of, Ran, run}

-- with a budget of n the work on w ends, in at most m + 1 steps
pub record Ended (modes : ℕ → ℕ) (missed : Bool) (n : ℕ) (b : Book) (w m : ℕ) : Type 0 where
  pub ended : (run modes missed n b w).work ≡ 0
  pub within : (run modes missed n b w).steps ≤ m + 1

-- both comes to what first and then the rest come to: the book and the order in work at the end, all events, all steps
pub record GoesOn (first then both : Ran) : Type 0 where
  pub book : both.book ≡ then.book
  pub work : both.work ≡ then.work
  pub events : both.events ≡ first.events ++ then.events
  pub steps : both.steps ≡ first.steps + then.steps

-- w of book b was killed whole: that is all that happened, nothing of it is open, and every other order is as it was
pub record KilledWhole (b : Book) (w : ℕ) (r : Ran) : Type 0 where
  pub events : r.events ≡ Killed w (open_of (at b w)) ∷ []
  pub shut : open_of (at r.book w) ≡ 0
  pub others : (k : ℕ) → k ≢ w → at r.book k ≡ at b k
