-- What holds of Run, on a market of bonds as of equities, for every table, every length of the report area and every budget of steps. Each statement is in the words
-- of the definitions; the proofs lead to the laws.
use mathlib.Core.Path.{◌≡◌}
use mathlib.Core.Bool.{true}
use mathlib.Core.List.{List, ◌++◌}
use Prim.Native.Nat.{ℕ, ◌+◌, ◌-◌, ◌*◌, ◌≤◌}
use lib.ListN.{length, drop}
use Rattle.decimal.specs.declared.Instrument.{Instrument}
use Rattle.matching.specs.Matching.{met_by, run}
use Rattle.table.specs.Heading.{next_of, work_of, mode_of}
use Rattle.table.specs.Orders.{book_of}
use Rattle.table.specs.Market.{is_market, is_market_of}
use Rattle.table.specs.Changes.{misses_now}
use Rattle.table.proofs.Facts.{market_facts}
use Rattle.calls.specs.Told.{joined, area_after}
use Rattle.calls.specs.Run.{worked, ran, run_steps}
use Rattle.turns.specs.Runs.{GoesOn, Agrees, Ended}
use Rattle.turns.proofs.Taking.{worked_on}
use Rattle.turns.proofs.Running.{ran_kept, ran_next, ran_fits, ran_area, ran_few}
use Rattle.turns.proofs.Agreeing.{agrees, work_ends}

-- Run on a market leaves a market that trades the same, whatever it answers
pub run_keeps : (q : Instrument) (t : List ℕ) (room budget : ℕ) → is_market_of q t ≡ true → is_market_of q (ran q t room budget).table ≡ true
run_keeps = ran_kept

-- it takes no more steps than its budget
pub within_budget : (q : Instrument) (t : List ℕ) (room budget : ℕ) → run_steps (ran q t room budget).answer ≤ budget
within_budget = ran_few

-- each report of it takes a number
pub run_numbers : (q : Instrument) (t : List ℕ) (room budget : ℕ) → is_market_of q t ≡ true
    → next_of (ran q t room budget).table ≡ next_of t + length (ran q t room budget).reports
run_numbers = ran_next

-- its reports fit the report area: afterwards it holds them, and behind them what it held
pub reports_fit : (q : Instrument) (t : List ℕ) (room budget : ℕ) → length (joined (ran q t room budget).reports) ≤ room
reports_fit = ran_fits

pub area_after_lem : (q : Instrument) (t area : List ℕ) (budget : ℕ)
    → let written = joined (ran q t (length area) budget).reports in
    area_after area (ran q t (length area) budget).reports ≡ written ++ drop (length written) area
area_after_lem = ran_area

-- m steps and then n, with the room that the first have left, are the same as m + n steps
pub run_goes_on : (m n : ℕ) (t : List ℕ) (room : ℕ)
    → let first = worked m t room in
    GoesOn first (worked n first.table (room - length (joined first.reports))) (worked (m + n) t room)
run_goes_on = worked_on

-- where there are 1,024 bytes for each step, the steps on a market are matching's steps on its book, the decision on a minimum with
-- them: the same book, order in work
-- and number of steps, and a report for each event
pub run_is_matching : (n : ℕ) (t : List ℕ) (room : ℕ) → is_market t ≡ true → 1024 * n ≤ room
    → Agrees (worked n t room) (run (mode_of t) (misses_now t) n (book_of t) (work_of t))
run_is_matching n t room m h = agrees n t room (market_facts t m) h

-- done: with m + 1 steps or more, and 1,024 bytes for each of m + 1, nothing is in work afterwards, and no more than m + 1 steps were
-- taken, m being the open opposite orders that the order in work meets
pub run_ends : (n : ℕ) (t : List ℕ) (room : ℕ) → is_market t ≡ true → met_by (book_of t) (work_of t) + 1 ≤ n
    → 1024 * (met_by (book_of t) (work_of t) + 1) ≤ room → Ended n t room (met_by (book_of t) (work_of t))
run_ends n t room m l h = work_ends n t room (market_facts t m) l h
