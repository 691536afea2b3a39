-- What the functions below Run ask for and leave: events that can happen in turn on a table and be told of, and the table and the
-- report area after them. Assumes nothing.
use Rattle.std.specs.Prelude.{◌≡◌, cond, ◌||◌, List, [], ◌∷◌, ℕ, ◌+◌, ◌≤◌, eqb, length, Option, Some, None}
use Rattle.octets.specs.Written.{Wrote}
use Rattle.matching.specs.declared.Event.{Event}
use Rattle.matching.specs.Matching.{who, partner, outcome, decided_after}
use Rattle.table.specs.Heading.{work_of, mode_of, put_next, put_decided, end_work}
use Rattle.table.specs.Orders.{book_of, applied}
use Rattle.table.specs.Best.{put_best}
use Rattle.table.specs.Facts.{Market, Due}
use Rattle.table.specs.Changes.{played, misses_now, stepped}
use Rattle.ticket.specs.Tickets.{kept_cause}
use Rattle.ticket.specs.Legible.{Legible}
use Rattle.calls.specs.declared.Progress.{Progress}
use Rattle.calls.specs.Told.{joined, area_after}
use Rattle.calls.specs.Run.{event_reports, step_reports, worked, progress}
use Rattle.turns.specs.declared.events.Told.{Told}
use Rattle.turns.specs.declared.step.Plan.{Plan}

-- event e can happen on the table, and its report, number n, can be written from the table after it
pub record Telling (t : List ℕ) (n : ℕ) (e : Event) : Type 0 where
  pub due : Due t (who e) e
  pub legible : Legible (applied t e) [] n (kept_cause (applied t e)) e

-- the same of events one after another, numbered from n on
abbrev pub Tellings : List ℕ → ℕ → List Event → Type 0
Tellings t n [] = Unit {0}
Tellings t n (e ∷ es) = Telling t n e × Tellings (applied t e) (n + 1) es

-- the events have happened, their reports stand at the start of what was lent of the area, and are counted
pub record Reported (t out : List ℕ) (n : ℕ) (es : List Event) (r : Told) (after area : List ℕ) : Type 0 where
  pub table : after ≡ played t es
  pub bytes_in : Wrote out 0 (joined (event_reports t n es)) r.bytes area
  pub count : r.reports ≡ length es

-- a market with an order in work
pub record Busy (t : List ℕ) : Type 0 where
  pub market : Market t
  pub work : 1 ≤ work_of t

-- what the next step comes to: who is in work, with whom he is matched, the outcome, and the decision to be noted, none if it ends the work
pub record Planned (t : List ℕ) (p : Plan) : Type 0 where
  pub work : p.work ≡ work_of t
  pub other : p.other ≡ partner (book_of t) (work_of t)
  pub came : p.came ≡ outcome (mode_of t) (misses_now t) (book_of t) (work_of t)
  pub decided : p.decided ≡ cond (misses_now t || eqb (partner (book_of t) (work_of t)) 0) None (Some (decided_after (book_of t) (work_of t)))

-- the end of a step, once its events have happened: the next number, and the decision, or nothing in work and the best levels
unfoldable pub finished : List ℕ → ℕ → Option ℕ → List ℕ
finished t n None = put_best (end_work (put_next t n))
finished t n (Some d) = put_decided (put_next t n) d

-- a step was taken
pub record Turned (t out : List ℕ) (r : Told) (after area : List ℕ) : Type 0 where
  pub table : after ≡ stepped t
  pub bytes_in : Wrote out 0 (joined (step_reports t)) r.bytes area
  pub count : r.reports ≡ length (step_reports t)

-- all steps were taken that the budget and the room allow
pub record Walked (t area : List ℕ) (budget : ℕ) (r : Progress) (after written : List ℕ) : Type 0 where
  pub answer : r ≡ progress (worked budget t (length area))
  pub table : after ≡ (worked budget t (length area)).table
  pub bytes_in : written ≡ area_after area (worked budget t (length area)).reports
