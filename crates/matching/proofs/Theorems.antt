-- What holds of matching: of every run of steps over any book, of every list of events that can happen, and of every level.
-- Each statement is in the words of specs/; the proofs are one line and lead to the laws.
use mathlib.Core.Path.{◌≡◌, sym, ◌∙◌}
use mathlib.Core.Bool.{Bool, true, false, ◌&&◌}
use mathlib.Core.List.{List, []}
use mathlib.Core.Logic.{◌≢◌, ◌⊎◌}
use Prim.Native.Nat.{ℕ, suc, ◌+◌, ◌-◌, ◌*◌, ◌≤◌, ◌<◌}
use native.Mathlib.Omega.{arith}
use lib.ListN.{length}
use lib.Dec.{eqb}
use Rattle.matching.specs.declared.Order.{Order}
use Rattle.matching.specs.declared.Event.{Event}
use Rattle.matching.specs.declared.Event.TheVariants.{Accepted, Replaced, Withdrawn}
use Rattle.matching.specs.Matching.{Book, at, open_of, is_buy, buys, ahead, better, faces, partner, met_by, opposed_to, happens, book_after, work_after, place_after, change, after, play, run, minimum_of, misses}
use Rattle.matching.specs.Accounts.{tally, tallied, trades, decrements, cancels, accepted, bought, sold, SelfTradeFree}
use Rattle.matching.specs.Runs.{Ended, GoesOn, KilledWhole}
use Rattle.matching.specs.Held.{Covered, Sound, In, Uncrossed, Held, Enters, Renews}
use Rattle.matching.specs.Happens.{Follow}
use Rattle.matching.specs.OutOfTheWay.{facing, SameOrder, OutOfTheWay, SameFills}
use Rattle.matching.specs.Depth.{stands, level_at, total_of, orders_of, over_levels, open_on, orders_on}
use Rattle.matching.proofs.Books.{open_low}
use Rattle.matching.proofs.Steps.{step_is, run_plays, run_fits, run_keeps, happens_fits}
use Rattle.matching.proofs.Conserved.{accounts, conserved_from, fits_follow, fits_accepted, fits_tallied}
use Rattle.matching.proofs.Fair.{run_fair, fair_balanced, fair_owners}
use Rattle.matching.proofs.Crossing.{step_uncrossed}
use Rattle.matching.proofs.Ends.{left_most, run_ends, step_two, run_reports_lem, most_reports_lem, rule_kept}
use Rattle.matching.proofs.Sounds.{run_sound}
use Rattle.matching.proofs.Holding.{step_held, run_held}
use Rattle.matching.proofs.Requests.{opened_held, accepted_held, replaced_held, withdrawn_held}
use Rattle.matching.proofs.Best.{by_place, partner_best, run_on}
use Rattle.matching.proofs.Placing.{place_kept, place_raised, place_elsewhere, turn_kept}
use Rattle.matching.proofs.Deciding.{decided_run}
use Rattle.matching.proofs.OutOfTheWay.{same_fills, same_decided}
use Rattle.matching.proofs.Levels.{standing_high, totals_add_up, orders_add_up, no_more, levels_ahead, best_level}

-- ---- every run of n steps of order w of book b
module _ (modes : ℕ → ℕ) (missed : Bool) (n : ℕ) (b : Book) (w : ℕ) (in_book : w ≤ length b) where
  -- conserved: the quantity of each order is what it had executed, decremented and canceled, what the events add, and what is
  -- open afterwards
  pub conserved : (k : ℕ) → Covered (at b k)
      → (at b k).qty
      ≡ (at b k).executed + tally trades k (run modes missed n b w).events
      + ((at b k).decremented + tally decrements k (run modes missed n b w).events)
      + ((at b k).canceled + tally cancels k (run modes missed n b w).events)
      + open_of (at (run modes missed n b w).book k)
  conserved k s =
      let es = (run modes missed n b w).events in
      let f = run_fits modes missed n b w in_book in
      let g = accounts k es b (fits_follow es b f) s in
      let s : (h : Event → ℕ) (x : ℕ) → tallied h k x es ≡ x + tally h k es = λ h x. fits_tallied h k x es b f in
      sym (fits_accepted k (at b k).qty es b f)
      ∙ rw (← run_plays modes missed n b w, s trades (at b k).executed, s decrements (at b k).decremented, s cancels (at b k).canceled) at g

  -- balanced: what is bought is what is sold
  pub balanced : bought b (run modes missed n b w).events ≡ sold b (run modes missed n b w).events
  balanced = fair_balanced b (run_fair modes missed n b w in_book)

  -- no self-trade: no two orders of one MPID trade
  pub no_self_trade : SelfTradeFree b (run modes missed n b w).events
  no_self_trade = fair_owners b (run_fair modes missed n b w in_book)

  -- uncrossed: apart from the order in work
  pub uncrossed : Uncrossed b w → Uncrossed (run modes missed n b w).book (run modes missed n b w).work
  uncrossed =
      run_keeps Uncrossed modes (λ m c v i x. step_uncrossed c v _ (happens_fits modes m c v i) x (step_is modes m c v)) missed n b w in_book

  -- and wholly once the work has ended
  pub uncrossed_wholly : Uncrossed b w → (run modes missed n b w).work ≡ 0
      → let c = (run modes missed n b w).book in
      (i j : ℕ) → is_buy (at c i) ≡ true → is_buy (at c j) ≡ false → 0 < open_of (at c i) → 0 < open_of (at c j) → (at c j).level < (at c i).level
  uncrossed_wholly x z i j bi bj oi oj =
      let c = (run modes missed n b w).book in
      uncrossed x i j (λ e. omega (arith, open_low c i oi)) (λ e. omega (arith, open_low c j oj)) bi bj oi oj

  -- in range: every order keeps its ranges; executed ≤ sum ≤ executed × 1,999,999,999, and canceled above 0 means nothing open
  pub in_range : ((k : ℕ) → In b k → Sound (at b k)) → (k : ℕ) → In (run modes missed n b w).book k → Sound (at (run modes missed n b w).book k)
  in_range = run_sound modes missed n b w in_book

  -- numbers: all reports are at most two for each open opposite order and one more
  pub numbers : length (run modes missed n b w).events ≤ 2 * opposed_to b w + 1
  numbers = omega (arith, run_reports_lem modes missed n b w in_book, most_reports_lem b w)

-- done: m + 1 steps end the work, m being the open opposite orders that it meets
pub done : (modes : ℕ → ℕ) (missed : Bool) (b : Book) (w : ℕ) → w ≤ length b → Ended modes missed (met_by b w + 1) b w (met_by b w)
done modes missed b w h =
    let g = run_ends modes missed (met_by b w + 1) b w h (omega (arith, left_most b w)) in
    record { ended = g.ended; within = omega (arith, g.within, left_most b w) }

-- decided: an order with something open, not decided before and run to its end, was killed whole, or has traded at least its minimum
pub minimum_kept : (modes : ℕ → ℕ) (b : Book) (w : ℕ) → In b w → (n : ℕ) → 0 < open_of (at b w)
    → let r = run modes (misses modes 0 b w) n b w in
    r.work ≡ 0 → KilledWhole b w r ⊎ (minimum_of (at b w) ≤ (at r.book w).executed - (at b w).executed)
minimum_kept = decided_run

-- own orders cost no fills: under Cancel Oldest an order, run to its end, has the same trades in turn, and the same quantity of it is left
-- or given back, whether its owner's open orders on the other side stand there or are out of the way
module _ {A : Type 0} (name : ℕ → A) (b : Book) (w : ℕ) (title : ℕ → A) (c : Book) (v : ℕ) (same : SameOrder (at b w) (at c v))
    (aside : OutOfTheWay (facing (at b w)) (at b w).mpid name b title c)
    (modes ways : ℕ → ℕ) (oldest : modes (at b w).mpid ≡ 2) (there : ways (at b w).mpid ≡ 2) (in_b : In b w) (in_c : In c v) where
  pub own_orders_cost_no_fills : (m n : ℕ) → (run modes false m b w).work ≡ 0 → (run ways false n c v).work ≡ 0
      → SameFills name w (run modes false m b w) title v (run ways false n c v)
  own_orders_cost_no_fills = same_fills name b w title c v same aside modes ways oldest there in_b in_c

  -- and so of an order with a minimum, which is killed on both or on neither
  pub own_orders_cost_no_minimum : (decided m n : ℕ) → 0 < open_of (at b w)
      → let r = run modes (misses modes decided b w) m b w in
      let s = run ways (misses ways decided c v) n c v in
      r.work ≡ 0 → s.work ≡ 0 → SameFills name w r title v s
  own_orders_cost_no_minimum = same_decided name b w title c v same aside modes ways oldest there in_b in_c

-- a run of m steps and then one of n is a run of m + n
pub goes_on : (modes : ℕ → ℕ) (missed : Bool) (m n : ℕ) (b : Book) (w : ℕ)
    → GoesOn (run modes missed m b w) (run modes (eqb m 0 && missed) n (run modes missed m b w).book (run modes missed m b w).work) (run modes missed (m + n) b w)
goes_on = run_on

-- best is best: nothing that the order in work meets is better than the one it is matched with
pub best : (b : Book) (w r k : ℕ) → partner b w ≡ r → 0 < r → In b k → faces (at b w) (at b k) ≡ true → better (at b k) (at b r) ≡ false
best = partner_best

-- a step has no report, one or two
pub two_reports : (modes : ℕ → ℕ) (missed : Bool) (b : Book) (w : ℕ) → length (happens modes missed b w) ≤ 2
two_reports modes missed b w = step_two b w _ (step_is modes missed b w)

-- the rule on numbers is kept, up to any bound: the next number and, while the order in work has something open, two for each
-- open opposite order and one more
pub rule : (modes : ℕ → ℕ) (missed : Bool) (next most : ℕ) (b : Book) (w : ℕ) → In b w → next ≤ most → (0 < open_of (at b w) → next + 2 * opposed_to b w + 1 ≤ most)
    → let c = book_after modes missed b w in
    let later = next + length (happens modes missed b w) in
    (later ≤ most) × (0 < open_of (at c (work_after missed b w)) → later + 2 * opposed_to c (work_after missed b w) + 1 ≤ most)
rule = rule_kept

-- held: a step keeps what a market asks of its book, the rule on numbers with it, the next number having grown by the reports
pub step_holds : (listed : ℕ → Bool) (modes : ℕ → ℕ) (missed : Bool) (next : ℕ) (b : Book) (w : ℕ) → In b w → Held listed next b w
    → Held listed (next + length (happens modes missed b w)) (book_after modes missed b w) (work_after missed b w)
step_holds = step_held

-- and so does a run
pub run_holds : (listed : ℕ → Bool) (modes : ℕ → ℕ) (missed : Bool) (n next : ℕ) (b : Book) (w : ℕ) → Held listed next b w
    → Held listed (next + length (run modes missed n b w).events) (run modes missed n b w).book (run modes missed n b w).work
run_holds = run_held

-- so do what Submit makes of a message, nothing being in work before it, and Open
pub accepted_holds : (listed : ℕ → Bool) (next : ℕ) (b : Book) (n : ℕ) (o : Order) → Held listed next b 0 → Enters listed next b n o
    → Held listed (next + 1) (after b (Accepted n o)) n
accepted_holds = accepted_held

pub replaced_holds : (listed : ℕ → Bool) (next : ℕ) (b : Book) (n l q p : ℕ) → Held listed next b 0 → Renews next b n l q p
    → Held listed (next + 1) (after b (Replaced n l q p)) n
replaced_holds = replaced_held

pub withdrawn_holds : (listed : ℕ → Bool) (next : ℕ) (b : Book) (n : ℕ) → Held listed next b 0 → In b n → next ≤ 999_998_976
    → Held listed (next + 1) (after b (Withdrawn n (open_of (at b n)))) 0
withdrawn_holds = withdrawn_held

pub opened_holds : (listed : ℕ → Bool) (next : ℕ) → next ≤ 1_000_000_000 → Held listed next [] 0
opened_holds = opened_held

-- ---- the place of an order o that is replaced as requested to a level and quantity, given being the place that it may take
module _ (o : Order) (level quantity given : ℕ) where
  -- kept with the same yield and a quantity not above the one in force, and so is its turn with every other order
  pub reduction_keeps : level ≡ o.level → quantity ≤ o.qty → place_after o level quantity given ≡ o.place
  reduction_keeps = place_kept o level quantity given

  pub reduction_keeps_turn : (n : ℕ) (other : Order) → level ≡ o.level → quantity ≤ o.qty
      → (better (change (Replaced n level quantity given) o) other ≡ better o other)
      × (better other (change (Replaced n level quantity given) o) ≡ better other o)
  reduction_keeps_turn = turn_kept o level quantity given

  -- the one given with a greater quantity, and with another yield
  pub raise_takes : o.qty < quantity → place_after o level quantity given ≡ given
  raise_takes = place_raised o level quantity given

  pub elsewhere_takes : level ≢ o.level → place_after o level quantity given ≡ given
  elsewhere_takes = place_elsewhere o level quantity given

-- who takes the place of its report goes behind every order of the level
pub taken_behind : (listed : ℕ → Bool) (next : ℕ) (b : Book) (n l q p : ℕ) → Held listed next b 0 → Renews next b n l q p
    → place_after (at b n) l q p ≡ p
    → (k : ℕ) → In b k → (at b k).level ≡ l → better (at b k) (change (Replaced n l q p) (at b n)) ≡ true
unfolding change
taken_behind listed next b n l q p h a e k i s =
    by_place (at b k) _ s (rw e (omega (arith, h.places_below k i, a.newest)))

-- ---- every list of events that can happen from an empty book on: acceptances, replacements, withdrawals and steps
-- conserved: the quantity of the last acceptance or replacement of an order is what the events since its acceptance execute,
-- decrement and cancel of it, and what is open
pub conserved_always : (k : ℕ) (es : List Event) → Follow [] es
    → accepted k 0 es ≡ tallied trades k 0 es + tallied decrements k 0 es + tallied cancels k 0 es + open_of (at (play [] es) k)
conserved_always = conserved_from

-- ---- the levels of a side of any book whose orders are in their ranges
module _ (b : Book) (s : ℕ) (sound : (k : ℕ) → In b k → Sound (at b k)) where
  -- the levels' totals add up to all that is open on the side, and their orders to its open orders
  pub depth_totals : over_levels total_of b s (length b) ≡ open_on b s
  depth_totals = totals_add_up b s (standing_high b s sound)

  pub depth_orders : over_levels orders_of b s (length b) ≡ orders_on b s
  depth_orders = orders_add_up b s (standing_high b s sound)

  -- there are at most as many levels as orders
  pub depth_ends : level_at b s (length b) ≡ 0
  depth_ends = no_more b s (standing_high b s sound)

  -- from the best: each level is better than the next, and no open order of the side is better than the first
  pub depth_falls : (k : ℕ) → 0 < level_at b s (suc k) → ahead (buys s) (level_at b s k) (level_at b s (suc k)) ≡ true
  depth_falls = levels_ahead b s (standing_high b s sound)

  pub depth_best : (k : ℕ) → In b k → stands s (at b k) ≡ true → ahead (buys s) (at b k).level (level_at b s 0) ≡ false
  depth_best = best_level b s (standing_high b s sound)
