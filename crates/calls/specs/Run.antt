-- What Run answers and leaves (document 01, "The table and its calls", Run and refusals 1 and 2; "Matching, step by step"; document
-- 02, T-08): for any bytes of a table, any length of the report area and any budget of steps. Assumes nothing.
use Rattle.std.specs.Prelude.{Bool, cond, not, ◌||◌, List, [], ◌∷◌, ◌++◌, ℕ, zero, suc, ◌+◌, ◌-◌, eqb, ltb, length, Result, Ok, Err}
use Rattle.refusals.specs.declared.Refusal.{Refusal}
use Rattle.refusals.specs.declared.Refusal.TheVariants.{NoRoom, NoMarket}
use Rattle.decimal.specs.declared.Instrument.{Instrument}
use Rattle.matching.specs.declared.Event.{Event}
use Rattle.table.specs.Heading.{next_of, work_of}
use Rattle.table.specs.Orders.{applied}
use Rattle.table.specs.Market.{is_market_of}
use Rattle.table.specs.Changes.{step_events, stepped}
use Rattle.ticket.specs.Tickets.{ticket_of, kept_cause}
use Rattle.calls.specs.declared.Progress.{Progress}
use Rattle.calls.specs.Told.{joined, room_asked}

-- ---- the reports of a step

-- the report of an event, number n, on the table after it; its 52 is the one that the heading keeps
unfoldable pub event_report : List ℕ → ℕ → Event → List ℕ
event_report t n e = ticket_of t [] n (kept_cause t) e

-- the reports of events that happen one after the other, numbered from n on
unfoldable pub event_reports : List ℕ → ℕ → List Event → List (List ℕ)
event_reports t n [] = []
event_reports t n (e ∷ es) = event_report (applied t e) n e ∷ event_reports (applied t e) (n + 1) es

-- the reports of the next step
unfoldable pub step_reports : List ℕ → List (List ℕ)
step_reports t = event_reports t (next_of t) (step_events t)

-- ---- steps

-- what steps leave: the table, the reports in turn, and how many steps were taken
pub record Worked : Type 0 where
  pub table : List ℕ
  pub reports : List (List ℕ)
  pub steps : ℕ

-- no step is taken: nothing is in work, or there is no room
abbrev pub stops : List ℕ → ℕ → Bool
stops t room = eqb (work_of t) 0 || ltb room room_asked

abbrev pub still : List ℕ → Worked
still t = record { table = t; reports = []; steps = 0 }

-- one step before others
abbrev pub one_more : List (List ℕ) → Worked → Worked
one_more rs w = record { table = w.table; reports = rs ++ w.reports; steps = suc w.steps }

-- steps within a budget, with so many bytes of the area free: before each step it is asked whether to stop
unfoldable pub worked : ℕ → List ℕ → ℕ → Worked
worked zero t room = still t
worked (suc budget) t room =
    cond (stops t room) (still t)
    (one_more (step_reports t) (worked budget (stepped t) (room - length (joined (step_reports t)))))

-- ---- the call

-- what Run leaves
pub record Ran : Type 0 where
  pub answer : Result Progress Refusal
  pub table : List ℕ
  pub reports : List (List ℕ)

abbrev pub unmoved : List ℕ → Refusal → Ran
unmoved t r = record { answer = Err r; table = t; reports = [] }

-- how far that is
abbrev pub progress : Worked → Progress
progress w = record { bytes = length (joined w.reports); reports = length w.reports; steps = w.steps }

abbrev pub done : Worked → Ran
done w = record { answer = Ok (progress w); table = w.table; reports = w.reports }

-- the call for bonds takes a market of bonds, and that for equities one of equities
unfoldable pub ran : Instrument → List ℕ → ℕ → ℕ → Ran
ran q t room budget =
    cond (ltb room room_asked) (unmoved t NoRoom)
    (cond (not (is_market_of q t)) (unmoved t NoMarket)
    (done (worked budget t room)))

-- bytes, reports and steps, each 0 where Run is refused
abbrev pub run_bytes : Result Progress Refusal → ℕ
run_bytes (Ok p) = p.bytes
run_bytes (Err r) = 0

abbrev pub run_reports : Result Progress Refusal → ℕ
run_reports (Ok p) = p.reports
run_reports (Err r) = 0

abbrev pub run_steps : Result Progress Refusal → ℕ
run_steps (Ok p) = p.steps
run_steps (Err r) = 0
