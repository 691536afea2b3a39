-- Steps on a market are matching's steps on its book, where there is room: the book and the order in work at the end, as many steps, and a
-- report of each event in turn.
use mathlib.Core.Path.{◌≡◌, refl, ap, ◌∙◌}
use mathlib.Core.Bool.{true, false}
use mathlib.Core.List.{List, [], ◌∷◌, ◌++◌, map, append-nil, map-append}
use Prim.Native.Nat.{ℕ, zero, suc, ◌+◌, ◌*◌, ◌-◌, ◌≤◌}
use native.Mathlib.Nat.{add-zero}
use native.Mathlib.Omega.{arith}
use lib.Dec.{eqb}
use lib.ListN.{length}
use borrow.Author.Tests.{eqb-true, eqb-false, eq-eqb, le-ltb}
use Rattle.octets.proofs.Bools.{split}
use Rattle.decimal.specs.declared.Instrument.{Instrument}
use Rattle.matching.specs.declared.Event.{Event}
use Rattle.matching.specs.Matching.{met_by, who, Ran, run}
use Rattle.table.specs.Heading.{next_of, work_of, instrument_of, mode_of}
use Rattle.table.specs.Orders.{order_id_at, book_of, applied}
use Rattle.table.specs.Market.{is_market_of}
use Rattle.table.specs.Facts.{Market}
use Rattle.table.specs.Changes.{misses_now, step_events, step_work, stepped}
use Rattle.table.proofs.Instruments.{of_market, market_instrument, instrument_below}
use Rattle.table.proofs.Facts.{market_facts}
use Rattle.table.proofs.Kept.{stepped_kept, stepped_instrument}
use Rattle.table.proofs.OrderIds.{applied_order_id, stepped_order_id}
use Rattle.ticket.specs.Tickets.{kept_cause}
use Rattle.ticket.proofs.Running.{Legibles, step_legibles}
use Rattle.readback.proofs.Events.{event_says}
use Rattle.report.specs.declared.Reading.{Reading}
use Rattle.report.specs.Reports.{read_of}
use Rattle.calls.specs.Told.{joined}
use Rattle.calls.specs.Run.{event_report, event_reports, step_reports, Worked, stops, still, worked, Ran as RanBy, ran, run_steps}
use Rattle.turns.proofs.Stepping.{step_book, step_work_lem, step_modes, step_decided, step_short}
use Rattle.turns.proofs.Taking.{stops_still, worked_on}
use Rattle.turns.proofs.Agreeing.{agrees, run_one}
use Rattle.turns.proofs.Theorems.{run_ends}
use Rattle.promises.specs.Shown.{ReportsOf}

-- ---- an event leaves what is traded
pub applied_instrument : (t : List ℕ) (e : Event) → instrument_of (applied t e) ≡ instrument_of t
unfolding applied
applied_instrument t e = instrument_below t (128 * who e + 64) _ (omega arith)

-- ---- the reports of a step
reports_of_lem : (q : Instrument) (ids : ℕ → ℕ) (es : List Event) (t : List ℕ) (n : ℕ) → instrument_of t ≡ q → ((i : ℕ) → order_id_at t i ≡ ids i) → Legibles t n es
    → ReportsOf ids (map (read_of q) (event_reports t n es)) es
unfolding event_reports event_report
reports_of_lem q ids [] t n k s h = tt
reports_of_lem q ids (e ∷ es) t n k s h =
    let w : (i : ℕ) → order_id_at (applied t e) i ≡ ids i = λ i. applied_order_id t e i ∙ s i in
    let v : instrument_of (applied t e) ≡ q = applied_instrument t e ∙ k in
    let g = rw v at (event_says (applied t e) [] n (kept_cause (applied t e)) e h.0) in (
      record { kind = g.is_kind; order = g.says_37 ∙ w (who e); quantity = g.says_32; reason = g.says_378 },
      reports_of_lem q ids es (applied t e) (n + 1) v w h.1,
    )

pub step_reports_lem : (q : Instrument) (t : List ℕ) → instrument_of t ≡ q → Market t → 1 ≤ work_of t → ReportsOf (order_id_at t) (map (read_of q) (step_reports t)) (step_events t)
unfolding step_reports
step_reports_lem q t k m l = reports_of_lem q (order_id_at t) (step_events t) t (next_of t) k (λ i. refl) (step_legibles t m l)

-- by the same OrderIDs
pub reports_same : (ids jds : ℕ → ℕ) → ((i : ℕ) → ids i ≡ jds i) → (rs : List Reading) (es : List Event) → ReportsOf ids rs es → ReportsOf jds rs es
reports_same ids jds s [] [] x = tt
reports_same ids jds s [] (e ∷ es) x = absurd x
reports_same ids jds s (r ∷ rs) [] x = absurd x
reports_same ids jds s (r ∷ rs) (e ∷ es) x = (
  record { kind = x.0.kind; order = x.0.order ∙ s (who e); quantity = x.0.quantity; reason = x.0.reason },
  reports_same ids jds s rs es x.1,
)

-- ---- steps
pub reports_append : (ids : ℕ → ℕ) (rs qs : List Reading) (es fs : List Event) → ReportsOf ids rs es → ReportsOf ids qs fs
    → ReportsOf ids (rs ++ qs) (es ++ fs)
reports_append ids [] qs [] fs x y = y
reports_append ids [] qs (e ∷ es) fs x y = absurd x
reports_append ids (r ∷ rs) qs [] fs x y = absurd x
reports_append ids (r ∷ rs) qs (e ∷ es) fs x y = (x.0, reports_append ids rs qs es fs x.1 y)

-- their reports, in turn
worked_events : (q : Instrument) (n : ℕ) (t : List ℕ) (room : ℕ) → instrument_of t ≡ q → Market t → 1024 * n ≤ room
    → ReportsOf (order_id_at t) (map (read_of q) (worked n t room).reports) (run (mode_of t) (misses_now t) n (book_of t) (work_of t)).events
unfolding worked run step_events step_work
worked_events q zero t room k m h = tt
worked_events q (suc n) t room k m h =
    split (eqb (work_of t) 0)
    (λ z.
    let e = eqb-true (work_of t) 0 z in
    let s : stops t room ≡ true = rw z in
    rw (s, e) tt)
    (λ z.
    let l : 1 ≤ work_of t = omega (arith, eqb-false (work_of t) 0 z) in
    let s : stops t room ≡ false = rw (z, le-ltb room 1024 (omega arith)) in
    let rs = step_reports t in
    let short = step_short t (record { market = m; work = l }) in
    let after : List ℕ = stepped t in
    let left : ℕ = room - length (joined rs) in
    let g =
    reports_same (order_id_at after) (order_id_at t) (stepped_order_id t) (map (read_of q) (worked n after left).reports)
    (run (mode_of after) (misses_now after) n (book_of after) (work_of after)).events
    (worked_events q n after left (stepped_instrument t m l ∙ k) (stepped_kept t m l) (omega arith)) in
    let d = rw (step_decided t m l, step_modes t m l, step_book t m l, step_work_lem t m l) at g in
    rw (s, run_one (mode_of t) (misses_now t) n (book_of t) (work_of t) l, map-append (read_of q) rs (worked n after left).reports)
    (reports_append (order_id_at t) (map (read_of q) rs) _ _ _ (step_reports_lem q t k m l) d))

-- what was worked on a table is what was run on a book, by the OrderIDs of its records
pub record Matches (q : Instrument) (ids : ℕ → ℕ) (w : Worked) (r : Ran) : Type 0 where
  pub book : book_of w.table ≡ r.book
  pub work : work_of w.table ≡ r.work
  pub steps : w.steps ≡ r.steps
  pub events : ReportsOf ids (map (read_of q) w.reports) r.events

pub worked_matches : (q : Instrument) (n : ℕ) (t : List ℕ) (room : ℕ) → instrument_of t ≡ q → Market t → 1024 * n ≤ room → Matches q (order_id_at t) (worked n t room) (run (mode_of t) (misses_now t) n (book_of t) (work_of t))
worked_matches q n t room k m h =
    let g = agrees n t room m h in
    record { book = g.book; work = g.work; steps = g.steps; events = worked_events q n t room k m h }

-- ---- a budget beyond the end of the work
module _ (q : Instrument) (n k : ℕ) (t : List ℕ) (room : ℕ) (same : instrument_of t ≡ q) (m : Market t) (h : 1024 * n ≤ room) (z : (run (mode_of t) (misses_now t) n (book_of t) (work_of t)).work ≡ 0) where
  first : Matches q (order_id_at t) (worked n t room) (run (mode_of t) (misses_now t) n (book_of t) (work_of t))
  first = worked_matches q n t room same m h

  rest : worked k (worked n t room).table (room - length (joined (worked n t room).reports)) ≡ still (worked n t room).table
  rest =
      let e : work_of (worked n t room).table ≡ 0 = first.work ∙ z in
      stops_still (worked n t room).table (room - length (joined (worked n t room).reports)) k (rw (eq-eqb (work_of (worked n t room).table) 0 e))

  pub worked_beyond : Matches q (order_id_at t) (worked (n + k) t room) (run (mode_of t) (misses_now t) n (book_of t) (work_of t))
  worked_beyond =
      let g = worked_on n k t room in
      let e : (worked (n + k) t room).table ≡ (worked n t room).table = g.table ∙ ap (λ (x : Worked). x.table) rest in
      let d : (worked (n + k) t room).reports ≡ (worked n t room).reports =
      g.reports ∙ ap (λ (x : Worked). (worked n t room).reports ++ x.reports) rest ∙ append-nil _ in
      let s : (worked (n + k) t room).steps ≡ (worked n t room).steps = g.steps ∙ ap (λ (x : Worked). (worked n t room).steps + x.steps) rest ∙ add-zero _ in
      record {
        book = ap book_of e ∙ first.book;
        work = ap (λ (x : List ℕ). work_of x) e ∙ first.work;
        steps = s ∙ first.steps;
        events = rw d first.events;
      }

-- ---- Run, where n steps end the work
pub record RunsAs (q : Instrument) (ids : ℕ → ℕ) (r : RanBy) (s : Ran) : Type 0 where
  pub book : book_of r.table ≡ s.book
  pub work : work_of r.table ≡ s.work
  pub steps : run_steps r.answer ≡ s.steps
  pub events : ReportsOf ids (map (read_of q) r.reports) s.events

pub ran_matches : (q : Instrument) (n : ℕ) (t : List ℕ) (room budget : ℕ) → is_market_of q t ≡ true → 1 ≤ n → 1024 * n ≤ room → n ≤ budget
    → (run (mode_of t) (misses_now t) n (book_of t) (work_of t)).work ≡ 0 → RunsAs q (order_id_at t) (ran q t room budget) (run (mode_of t) (misses_now t) n (book_of t) (work_of t))
unfolding ran
ran_matches q n t room budget m low h l z =
    let e : budget ≡ n + (budget - n) = omega arith in
    let g = rw (← e) at (worked_beyond q n (budget - n) t room (market_instrument q t m) (market_facts t (of_market q t m)) h z) in
    rw (le-ltb room 1024 (omega arith), m) (record { book = g.book; work = g.work; steps = g.steps; events = g.events })

-- m + 1 steps end the work
pub ran_ends : (q : Instrument) (t : List ℕ) (room budget : ℕ) → is_market_of q t ≡ true → 1024 * (met_by (book_of t) (work_of t) + 1) ≤ room → met_by (book_of t) (work_of t) + 1 ≤ budget
    → (work_of (ran q t room budget).table ≡ 0) × (run_steps (ran q t room budget).answer ≤ met_by (book_of t) (work_of t) + 1)
unfolding ran
ran_ends q t room budget m h l =
    let g = run_ends budget t room (of_market q t m) l h in
    rw (le-ltb room 1024 (omega arith), m) (g.ended, g.within)
