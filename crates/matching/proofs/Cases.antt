-- The rehearsed cases 1 to 11 of document 01, with the mirror of the last, two of replacements and eight of minimums, each over any book that is the
-- one written down: of a table's book it is the same statement. Modes are those of the market's MPIDs; only that of the order in
-- work is asked for.
use mathlib.Core.Path.{◌≡◌, refl, ap, ◌∙◌}
use mathlib.Core.List.{List, [], ◌∷◌, map}
use Prim.Native.Nat.{ℕ, ◌+◌, ◌≤◌}
use native.Mathlib.Omega.{arith}
use lib.ListN.{length}
use Rattle.std.specs.Prelude.{Some, None}
use Rattle.octets.specs.Characters.{bytes}
use Rattle.decimal.specs.declared.Instrument.TheVariants.{Bonds}
use Rattle.decimal.specs.Writing.{decimal, places, plain, fixed, mean_text, share_of, mean_of}
use Rattle.matching.specs.declared.Event.{Event}
use Rattle.matching.specs.Matching.{Book, at, open_of, Ran, run, meets, better, faces, choose, best, same_owner, prevention, meeting, ending, preventing, causes, place_after, change, after, play, partner, outcome, happens, work_after, minimum_of, would_trade, misses, sum_over, count_of}
use Rattle.matching.specs.Accounts.{tally}
use Rattle.matching.specs.Depth.{stands, behind, nearer, next, level_at, on_level, share, total, orders, depth}
use Rattle.matching.specs.Rehearsed.{yield, book_a, events1, events2, events3, book4, events4, book5, events5, book6, events6, book7, events7, book8, book9, events9, book10, book11, mirror11, sell, buy, book_turn, events_reduced, events_raised, book_kill, events_kill, events_fill, book_least, events_least2, events_least3, Shows, Line, Averages}
use Rattle.matching.proofs.Modes.{same_modes, same_misses, beyond}

-- ---- what a run of n steps comes to where every MPID has mode m, by computing

abbrev always : ℕ → ℕ → ℕ
always m mpid = m

record Comes (m : ℕ) (b : Book) (w n : ℕ) (es : List Event) (os : List ℕ) : Type 0 where
  events : (run (always m) (misses (always m) 0 b w) n b w).events ≡ es
  left : map open_of (run (always m) (misses (always m) 0 b w) n b w).book ≡ os
  steps : (run (always m) (misses (always m) 0 b w) n b w).steps ≡ n
  ended : (run (always m) (misses (always m) 0 b w) n b w).work ≡ 0

record Means (m : ℕ) (b : Book) (w n sum executed : ℕ) : Type 0 where
  ended : (run (always m) (misses (always m) 0 b w) n b w).work ≡ 0
  sum_is : (at (run (always m) (misses (always m) 0 b w) n b w).book w).sum ≡ sum
  executed_is : (at (run (always m) (misses (always m) 0 b w) n b w).book w).executed ≡ executed

-- computing opens these
computes : ℕ
unfolding open_of run meets better faces choose best same_owner prevention meeting ending preventing causes place_after change after play partner outcome happens work_after minimum_of would_trade misses
computes = 0

comes1 : Comes 1 book_a 5 4 events1 (0 ∷ 0 ∷ 200 ∷ 500 ∷ 0 ∷ [])
unfolding computes
comes1 = record { events = refl; left = refl; steps = refl; ended = refl }

comes2 : Comes 2 book_a 5 5 events2 (0 ∷ 0 ∷ 0 ∷ 0 ∷ 400 ∷ [])
unfolding computes
comes2 = record { events = refl; left = refl; steps = refl; ended = refl }

comes3 : Comes 3 book_a 5 5 events3 (0 ∷ 0 ∷ 0 ∷ 0 ∷ 200 ∷ [])
unfolding computes
comes3 = record { events = refl; left = refl; steps = refl; ended = refl }

line3 : Line book_a events3 5 1200 800 200 0 200
unfolding computes tally
line3 = record { is_accepted = refl; is_executed = refl; is_decremented = refl; is_canceled_lem = refl; is_left = refl; adds_up = refl }

comes4 : Comes 3 book4 2 2 events4 (0 ∷ 0 ∷ [])
unfolding computes
comes4 = record { events = refl; left = refl; steps = refl; ended = refl }

comes5 : Comes 3 book5 2 2 events5 (150 ∷ 0 ∷ [])
unfolding computes
comes5 = record { events = refl; left = refl; steps = refl; ended = refl }

-- the book of a replacement and a buy: a reduced sell has its place, a raised one that of the replacement
abbrev turned : ℕ → ℕ → Book
turned quantity place = sell quantity (yield 100) place 11 ∷ sell 200 (yield 100) 2 12 ∷ buy 250 (yield 100) 4 13 ∷ []

reduced_is : book_turn 150 ≡ turned 150 1
unfolding computes
reduced_is = refl

raised_is : book_turn 300 ≡ turned 300 3
unfolding computes
raised_is = refl

-- A with a MinQty: reached, and missed by one
comes_least1 : Comes 1 (book_least 300) 5 4 events1 (0 ∷ 0 ∷ 200 ∷ 500 ∷ 0 ∷ [])
unfolding computes
comes_least1 = record { events = refl; left = refl; steps = refl; ended = refl }

comes_least2 : Comes 2 (book_least 800) 5 5 events_least2 (0 ∷ 0 ∷ 0 ∷ 0 ∷ 0 ∷ [])
unfolding computes
comes_least2 = record { events = refl; left = refl; steps = refl; ended = refl }

comes_least3 : Comes 3 (book_least 800) 5 5 events_least3 (0 ∷ 0 ∷ 0 ∷ 0 ∷ 0 ∷ [])
unfolding computes
comes_least3 = record { events = refl; left = refl; steps = refl; ended = refl }

comes_missed1 : Comes 1 (book_least 301) 5 1 events_kill (100 ∷ 200 ∷ 200 ∷ 500 ∷ 0 ∷ [])
unfolding computes
comes_missed1 = record { events = refl; left = refl; steps = refl; ended = refl }

comes_missed2 : Comes 2 (book_least 801) 5 1 events_kill (100 ∷ 200 ∷ 200 ∷ 500 ∷ 0 ∷ [])
unfolding computes
comes_missed2 = record { events = refl; left = refl; steps = refl; ended = refl }

comes_missed3 : Comes 3 (book_least 801) 5 1 events_kill (100 ∷ 200 ∷ 200 ∷ 500 ∷ 0 ∷ [])
unfolding computes
comes_missed3 = record { events = refl; left = refl; steps = refl; ended = refl }

-- under any mode
module _ (m : ℕ) where
  comes_killed : Comes m (book_kill 1200) 5 1 events_kill (100 ∷ 200 ∷ 200 ∷ 500 ∷ 0 ∷ [])
  unfolding computes
  comes_killed = record { events = refl; left = refl; steps = refl; ended = refl }

  comes_filled : Comes m (book_kill 1000) 5 5 events_fill (0 ∷ 0 ∷ 0 ∷ 0 ∷ 0 ∷ [])
  unfolding computes
  comes_filled = record { events = refl; left = refl; steps = refl; ended = refl }

  comes_reduced : Comes m (turned 150 1) 3 3 events_reduced (0 ∷ 100 ∷ 0 ∷ [])
  unfolding computes
  comes_reduced = record { events = refl; left = refl; steps = refl; ended = refl }

  comes_raised : Comes m (turned 300 3) 3 3 events_raised (250 ∷ 0 ∷ 0 ∷ [])
  unfolding computes
  comes_raised = record { events = refl; left = refl; steps = refl; ended = refl }

  comes6 : Comes m book6 2 2 events6 (150 ∷ 0 ∷ [])
  unfolding computes
  comes6 = record { events = refl; left = refl; steps = refl; ended = refl }

  comes7 : Comes m book7 5 5 events7 (0 ∷ 0 ∷ 0 ∷ 0 ∷ 0 ∷ [])
  unfolding computes
  comes7 = record { events = refl; left = refl; steps = refl; ended = refl }

  comes8 : Comes m book8 2 1 [] (100 ∷ 100 ∷ [])
  unfolding computes
  comes8 = record { events = refl; left = refl; steps = refl; ended = refl }

  comes9 : Comes m book9 2 2 events9 (0 ∷ 0 ∷ [])
  unfolding computes
  comes9 = record { events = refl; left = refl; steps = refl; ended = refl }

  means11 : Means m book11 3 3 3_000_000_302 3
  unfolding computes
  means11 = record { ended = refl; sum_is = refl; executed_is = refl }

  means_mirror11 : Means m mirror11 3 3 2_999_999_698 3
  unfolding computes
  means_mirror11 = record { ended = refl; sum_is = refl; executed_is = refl }

mean11 : mean_of 3_000_000_302 3 ≡ 1_000_000_100_667
unfolding mean_of share_of
mean11 = refl

text11 : mean_text Bonds 1_000_000_100_667 ≡ bytes "0.100667"
unfolding mean_text fixed plain decimal places
text11 = refl

mean_mirror11 : mean_of 2_999_999_698 3 ≡ 999_999_899_333
unfolding mean_of share_of
mean_mirror11 = refl

text_mirror11 : mean_text Bonds 999_999_899_333 ≡ bytes "-0.100667"
unfolding mean_text fixed plain decimal places
text_mirror11 = refl

level10 : depth book10 2 0 ≡ Some (record { level = yield 100; total = 4_999_999_995; orders = 5 })
unfolding open_of sum_over count_of stands behind nearer next level_at on_level share total orders depth
level10 = refl

no_level10 : depth book10 2 1 ≡ None
unfolding open_of sum_over count_of stands behind nearer next level_at on_level share total orders depth
no_level10 = refl

-- ---- the same with any budget of n steps or more, under modes that have m for the MPID of w
module _ (modes : ℕ → ℕ) (m : ℕ) (b : Book) (w n : ℕ) (in_book : w ≤ length b) (mode : modes (at b w).mpid ≡ m) where
  same : (run (always m) (misses (always m) 0 b w) n b w).work ≡ 0
      → (k : ℕ) → run modes (misses modes 0 b w) (n + k) b w ≡ run (always m) (misses (always m) 0 b w) n b w
  same z k =
      let e = same_modes modes (always m) (misses (always m) 0 b w) n b w in_book mode in
      rw (same_misses modes (always m) 0 b w in_book mode) (beyond modes (misses (always m) 0 b w) n k b w (rw e z) ∙ e)

  shown : {es : List Event} {os : List ℕ} → Comes m b w n es os → Shows modes b w es os n
  shown c =
      record {
        events = λ k. ap (λ (r : Ran). r.events) (same c.ended k) ∙ c.events;
        left = λ k. ap (λ (r : Ran). map open_of r.book) (same c.ended k) ∙ c.left;
        steps = λ k. ap (λ (r : Ran). r.steps) (same c.ended k) ∙ c.steps;
        ended = λ k. ap (λ (r : Ran). r.work) (same c.ended k) ∙ c.ended;
      }

  averaged : {sum executed mean : ℕ} {text : List ℕ} → Means m b w n sum executed → mean_of sum executed ≡ mean → mean_text Bonds mean ≡ text
      → Averages modes b w n sum executed mean text
  averaged c mean text =
      record {
        ended = λ k. ap (λ (r : Ran). r.work) (same c.ended k) ∙ c.ended;
        is_sum = λ k. ap (λ (r : Ran). (at r.book w).sum) (same c.ended k) ∙ c.sum_is;
        is_executed = λ k. ap (λ (r : Ran). (at r.book w).executed) (same c.ended k) ∙ c.executed_is;
        is_mean = mean;
        is_text_lem = text;
      }

-- ---- the cases
module _ (modes : ℕ → ℕ) (b : Book) where
  -- 1: mode 1; 200 and 500 stay; 4 steps
  pub case1 : modes 10 ≡ 1 → b ≡ book_a → Shows modes b 5 events1 (0 ∷ 0 ∷ 200 ∷ 500 ∷ 0 ∷ []) 4
  case1 m e = rw e (shown modes 1 book_a 5 4 (omega arith) m comes1)

  -- 2: mode 2; 400 rests; 5 steps
  pub case2 : modes 10 ≡ 2 → b ≡ book_a → Shows modes b 5 events2 (0 ∷ 0 ∷ 0 ∷ 0 ∷ 400 ∷ []) 5
  case2 m e = rw e (shown modes 2 book_a 5 5 (omega arith) m comes2)

  -- 3: mode 3; 200 rests: 1,200 = 800 + 200 + 0 + 200
  pub case3 : modes 10 ≡ 3 → b ≡ book_a → Shows modes b 5 events3 (0 ∷ 0 ∷ 0 ∷ 0 ∷ 200 ∷ []) 5 × Line b events3 5 1200 800 200 0 200
  case3 m e = rw e (shown modes 3 book_a 5 5 (omega arith) m comes3, line3)

  -- 4: mode 3; both are canceled
  pub case4 : modes 10 ≡ 3 → b ≡ book4 → Shows modes b 2 events4 (0 ∷ 0 ∷ []) 2
  case4 m e = rw e (shown modes 3 book4 2 2 (omega arith) m comes4)

  -- 5: mode 3; the sell has 150 open
  pub case5 : modes 10 ≡ 3 → b ≡ book5 → Shows modes b 2 events5 (150 ∷ 0 ∷ []) 2
  case5 m e = rw e (shown modes 3 book5 2 2 (omega arith) m comes5)

  -- 6: they trade
  pub case6 : b ≡ book6 → Shows modes b 2 events6 (150 ∷ 0 ∷ []) 2
  case6 e = rw e (shown modes (modes 0) book6 2 2 (omega arith) refl (comes6 (modes 0)))

  -- 7: trades of 1,000, and 200 expire; 5 steps
  pub case7 : b ≡ book7 → Shows modes b 5 events7 (0 ∷ 0 ∷ 0 ∷ 0 ∷ 0 ∷ []) 5
  case7 e = rw e (shown modes (modes 14) book7 5 5 (omega arith) refl (comes7 (modes 14)))

  -- 8: no trade; the one step ends the work
  pub case8 : b ≡ book8 → Shows modes b 2 [] (100 ∷ 100 ∷ []) 1
  case8 e = rw e (shown modes (modes 12) book8 2 1 (omega arith) refl (comes8 (modes 12)))

  -- 9: a trade at -0.005
  pub case9 : b ≡ book9 → Shows modes b 2 events9 (0 ∷ 0 ∷ []) 2
  case9 e = rw e (shown modes (modes 12) book9 2 2 (omega arith) refl (comes9 (modes 12)))

  -- 11: AvgPx 0.100667
  pub case11 : b ≡ book11 → Averages modes b 3 3 3_000_000_302 3 1_000_000_100_667 (bytes "0.100667")
  case11 e = rw e (averaged modes (modes 12) book11 3 3 (omega arith) refl (means11 (modes 12)) mean11 text11)

  -- 11, its mirror: AvgPx -0.100667
  pub case11_mirror : b ≡ mirror11 → Averages modes b 3 3 2_999_999_698 3 999_999_899_333 (bytes "-0.100667")
  case11_mirror e = rw e (averaged modes (modes 12) mirror11 3 3 (omega arith) refl (means_mirror11 (modes 12)) mean_mirror11 text_mirror11)

  -- a reduced order trades before the one that came after it
  pub reduced_first : b ≡ book_turn 150 → Shows modes b 3 events_reduced (0 ∷ 100 ∷ 0 ∷ []) 3
  reduced_first e = rw (e ∙ reduced_is) (shown modes (modes 13) (turned 150 1) 3 3 (omega arith) refl (comes_reduced (modes 13)))

  -- an order whose quantity is raised trades behind it
  pub raised_behind : b ≡ book_turn 300 → Shows modes b 3 events_raised (250 ∷ 0 ∷ 0 ∷ []) 3
  raised_behind e = rw (e ∙ raised_is) (shown modes (modes 13) (turned 300 3) 3 3 (omega arith) refl (comes_raised (modes 13)))

  -- Fill or Kill by MPID 14: 1,200 are killed in one step and no other order is touched; 1,000 trade
  pub kill_missed : b ≡ book_kill 1200 → Shows modes b 5 events_kill (100 ∷ 200 ∷ 200 ∷ 500 ∷ 0 ∷ []) 1
  kill_missed e = rw e (shown modes (modes 14) (book_kill 1200) 5 1 (omega arith) refl (comes_killed (modes 14)))

  pub kill_filled : b ≡ book_kill 1000 → Shows modes b 5 events_fill (0 ∷ 0 ∷ 0 ∷ 0 ∷ 0 ∷ []) 5
  kill_filled e = rw e (shown modes (modes 14) (book_kill 1000) 5 5 (omega arith) refl (comes_filled (modes 14)))

  -- A's 1,200 IOC with a MinQty, mode by mode: reached, and missed by one
  pub least1 : modes 10 ≡ 1 → b ≡ book_least 300 → Shows modes b 5 events1 (0 ∷ 0 ∷ 200 ∷ 500 ∷ 0 ∷ []) 4
  least1 m e = rw e (shown modes 1 (book_least 300) 5 4 (omega arith) m comes_least1)

  pub missed1 : modes 10 ≡ 1 → b ≡ book_least 301 → Shows modes b 5 events_kill (100 ∷ 200 ∷ 200 ∷ 500 ∷ 0 ∷ []) 1
  missed1 m e = rw e (shown modes 1 (book_least 301) 5 1 (omega arith) m comes_missed1)

  pub least2 : modes 10 ≡ 2 → b ≡ book_least 800 → Shows modes b 5 events_least2 (0 ∷ 0 ∷ 0 ∷ 0 ∷ 0 ∷ []) 5
  least2 m e = rw e (shown modes 2 (book_least 800) 5 5 (omega arith) m comes_least2)

  pub missed2 : modes 10 ≡ 2 → b ≡ book_least 801 → Shows modes b 5 events_kill (100 ∷ 200 ∷ 200 ∷ 500 ∷ 0 ∷ []) 1
  missed2 m e = rw e (shown modes 2 (book_least 801) 5 1 (omega arith) m comes_missed2)

  pub least3 : modes 10 ≡ 3 → b ≡ book_least 800 → Shows modes b 5 events_least3 (0 ∷ 0 ∷ 0 ∷ 0 ∷ 0 ∷ []) 5
  least3 m e = rw e (shown modes 3 (book_least 800) 5 5 (omega arith) m comes_least3)

  pub missed3 : modes 10 ≡ 3 → b ≡ book_least 801 → Shows modes b 5 events_kill (100 ∷ 200 ∷ 200 ∷ 500 ∷ 0 ∷ []) 1
  missed3 m e = rw e (shown modes 3 (book_least 801) 5 1 (omega arith) m comes_missed3)

-- 10: one level, with 4,999,999,995 and 5 orders
pub case10 : (b : Book) → b ≡ book10 → (depth b 2 0 ≡ Some (record { level = yield 100; total = 4_999_999_995; orders = 5 })) × (depth b 2 1 ≡ None)
case10 b e = rw e (level10, no_level10)
