-- What Run shows on a table of bonds or of equities (document 01, "Rehearsed books"; document 02, T-08): the events that its reports tell,
-- what is left open of each order, and the steps it takes. An event names its order by its record, a report by its OrderID; ids gives the
-- OrderID of each record. Assumes nothing.
use Rattle.std.specs.Prelude.{◌≡◌, List, [], ◌∷◌, map, ℕ, ◌*◌, ◌≤◌}
use Rattle.decimal.specs.declared.Instrument.{Instrument}
use Rattle.decimal.specs.Writing.{mean_text, mean_of}
use Rattle.matching.specs.declared.Event.{Event}
use Rattle.matching.specs.Matching.{at, open_of, who}
use Rattle.table.specs.Heading.{work_of}
use Rattle.table.specs.Orders.{order_id_at, book_of}
use Rattle.report.specs.declared.Reading.{Reading}
use Rattle.report.specs.Reports.{read_of}
use Rattle.readback.specs.Says.{says}
use Rattle.readback.specs.Told.{kind_told, reason_told, quantity_told}
use Rattle.calls.specs.Run.{ran, run_steps}

-- a report that was read is of event e: its kind, its order (37), what was traded (32) and why (378)
pub record ReportOf (ids : ℕ → ℕ) (r : Reading) (e : Event) : Type 0 where
  pub kind : r.kind ≡ kind_told e
  pub order : says 37 r ≡ ids (who e)
  pub quantity : says 32 r ≡ quantity_told e
  pub reason : says 378 r ≡ reason_told e

-- reports that were read are of events, one of each in turn
abbrev pub ReportsOf : (ℕ → ℕ) → List Reading → List Event → Type 0
ReportsOf ids [] [] = Unit {0}
ReportsOf ids [] (e ∷ es) = ⊥
ReportsOf ids (r ∷ rs) [] = ⊥
ReportsOf ids (r ∷ rs) (e ∷ es) = ReportOf ids r e × ReportsOf ids rs es

-- Run with this room and budget: its reports are of the events es, it leaves open os and nothing in work, and takes n steps
pub record ShowsIn (q : Instrument) (t : List ℕ) (room budget : ℕ) (es : List Event) (os : List ℕ) (n : ℕ) : Type 0 where
  pub events : ReportsOf (order_id_at t) (map (read_of q) (ran q t room budget).reports) es
  pub left : map open_of (book_of (ran q t room budget).table) ≡ os
  pub steps : run_steps (ran q t room budget).answer ≡ n
  pub ended : work_of (ran q t room budget).table ≡ 0

-- the same with any budget of n steps or more and room for them
abbrev pub ShowsOn : Instrument → List ℕ → List Event → List ℕ → ℕ → Type 0
ShowsOn q t es os n = (room budget : ℕ) → 1024 * n ≤ room → n ≤ budget → ShowsIn q t room budget es os n

-- order w has executed at this sum of quantity times level, of which the mean is AvgPx as it is written
pub record AveragesIn (q : Instrument) (t : List ℕ) (w room budget sum executed mean : ℕ) (text : List ℕ) : Type 0 where
  pub is_sum : (at (book_of (ran q t room budget).table) w).sum ≡ sum
  pub is_executed : (at (book_of (ran q t room budget).table) w).executed ≡ executed
  pub is_mean : mean_of sum executed ≡ mean
  pub is_text_lem : mean_text q mean ≡ text

abbrev pub AveragesOn : Instrument → List ℕ → ℕ → ℕ → ℕ → ℕ → ℕ → List ℕ → Type 0
AveragesOn q t w n sum executed mean text = (room budget : ℕ) → 1024 * n ≤ room → n ≤ budget → AveragesIn q t w room budget sum executed mean text
