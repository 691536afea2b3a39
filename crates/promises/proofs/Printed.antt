-- The three worked examples of source document 004, each over any market of equities whose book is the printed one with A's buy in work:
-- every line as printed, step by step and in one Run, and what is left open.
use mathlib.Core.Path.{◌≡◌, refl, ap, ◌∙◌}
use mathlib.Core.Bool.{true, false}
use mathlib.Core.List.{List, [], ◌∷◌, ◌++◌, map, append-nil}
use Prim.Native.Nat.{ℕ, suc, ◌≤◌}
use native.Mathlib.Omega.{arith}
use lib.Dec.{eqb}
use lib.ListN.{length}
use borrow.Author.Tests.{ne_eqb, le-ltb}
use Rattle.decimal.specs.declared.Instrument.{Instrument}
use Rattle.decimal.specs.declared.Instrument.TheVariants.{Equities}
use Rattle.matching.specs.declared.Event.{Event}
use Rattle.matching.specs.Matching.{Book, at, open_of, Ran, run, meets, better, faces, choose, best, same_owner, prevention, meeting, ending, preventing, causes, change, after, play, partner, outcome, happens, work_after, minimum_of}
use Rattle.matching.proofs.Deciding.{no_minimum}
use Rattle.table.specs.Heading.{work_of, decided_of, mode_of}
use Rattle.table.specs.Orders.{order_id_at, book_of}
use Rattle.table.specs.Market.{is_market_of}
use Rattle.table.specs.Facts.{Market}
use Rattle.table.specs.Changes.{misses_now, step_events, step_work, stepped}
use Rattle.table.proofs.Instruments.{of_market, market_instrument}
use Rattle.table.proofs.Facts.{market_facts}
use Rattle.report.specs.Reports.{read_of}
use Rattle.calls.specs.Run.{step_reports, worked, ran}
use Rattle.turns.proofs.Stepping.{step_book, step_work_lem, step_modes, step_decided}
use Rattle.turns.proofs.Agreeing.{run_one}
use Rattle.turns.proofs.Theorems.{run_keeps}
use Rattle.promises.specs.Shown.{ReportsOf}
use Rattle.promises.specs.Printed.{printed_book, Line, actions, cancel_newest, cancel_oldest, decrement, StepsAs, PrintsOn}
use Rattle.promises.proofs.Agreeing.{step_reports_lem, ran_matches}

-- ---- on a book: v is in work, of MPID a, which has mode m; w is the order that the lines are of
record Does (m a : ℕ) (b : Book) (w v : ℕ) (l : Line) : Type 0 where
  work : 1 ≤ v
  owner : (at b v).mpid ≡ a
  balance : open_of (at b w) ≡ l.balance
  action : happens (λ k. m) false b v ≡ l.action

abbrev Plays : ℕ → ℕ → Book → ℕ → ℕ → List Line → List ℕ → Type 0
Plays m a b w v [] os = (v ≡ 0) × (map open_of b ≡ os)
Plays m a b w v (l ∷ ls) os = Does m a b w v l × Plays m a (play b l.action) w (work_after false b v) ls os

-- a step asks for the mode of the MPID in work alone
happens_by : (modes : ℕ → ℕ) (m : ℕ) (b : Book) (v : ℕ) {es : List Event} → modes (at b v).mpid ≡ m → happens (λ k. m) false b v ≡ es
    → happens modes false b v ≡ es
unfolding happens outcome
happens_by modes m b v e h = rw e h

-- ---- in one run
record RunsTo (r : Ran) (es : List Event) (os : List ℕ) (n : ℕ) : Type 0 where
  events : r.events ≡ es
  left : map open_of r.book ≡ os
  steps : r.steps ≡ n
  work : r.work ≡ 0

module _ (modes : ℕ → ℕ) (m a w : ℕ) (mode : modes a ≡ m) (os : List ℕ) where
  action_is : (b : Book) (v : ℕ) (l : Line) → Does m a b w v l → happens modes false b v ≡ l.action
  action_is b v l d = happens_by modes m b v (ap modes d.owner ∙ mode) d.action

  plays_run : (ls : List Line) (b : Book) (v : ℕ) → Plays m a b w v ls os → RunsTo (run modes false (length ls) b v) (actions ls) os (length ls)
  unfolding run
  plays_run [] b v p = record { events = refl; left = p.1; steps = refl; work = p.0 }
  plays_run (l ∷ ls) b v p =
      let q = plays_run ls (play b l.action) (work_after false b v) p.1 in
      rw (run_one modes false (length ls) b v p.0.work, action_is b v l p.0)
      (record {
        events = ap (λ (es : List Event). l.action ++ es) q.events;
        left = q.left;
        steps = ap suc q.steps;
        work = q.work;
      })

-- ---- on a table, one step a call
record OneStep (q : Instrument) (t : List ℕ) (room : ℕ) : Type 0 where
  table : (ran q t room 1).table ≡ stepped t
  reports : (ran q t room 1).reports ≡ step_reports t

one_step : (q : Instrument) (t : List ℕ) (room : ℕ) → is_market_of q t ≡ true → 1 ≤ work_of t → 1024 ≤ room → OneStep q t room
unfolding ran worked
one_step q t room m l h =
    let z : eqb (work_of t) 0 ≡ false = ne_eqb (work_of t) 0 (λ e. omega arith) in
    record { table = rw (le-ltb room 1024 h, m, z); reports = rw (le-ltb room 1024 h, m, z) (append-nil (step_reports t)) }

module _ (q : Instrument) (m a w : ℕ) (os : List ℕ) where
  plays_steps : (ls : List Line) (t : List ℕ) → is_market_of q t ≡ true → mode_of t a ≡ m → misses_now t ≡ false → Plays m a (book_of t) w (work_of t) ls os → StepsAs q w t ls os
  unfolding step_events step_work
  plays_steps [] t mk mode missed p = p
  plays_steps (l ∷ ls) t mk mode missed p = (p.0.balance, λ room h. (reports room h, plays_steps ls (ran q t room 1).table (run_keeps q t room 1 mk) (modes_then room h) (missed_then room h) (rest room h)))
    where
      facts : Market t
      facts = market_facts t (of_market q t mk)

      does : happens (mode_of t) (misses_now t) (book_of t) (work_of t) ≡ l.action
      does = rw missed (action_is (mode_of t) m a w mode os (book_of t) (work_of t) l p.0)

      reports : (room : ℕ) → 1024 ≤ room → ReportsOf (order_id_at t) (map (read_of q) (ran q t room 1).reports) l.action
      reports room h = rw ((one_step q t room mk p.0.work h).reports, ← does) (step_reports_lem q t (market_instrument q t mk) facts p.0.work)

      modes_then : (room : ℕ) → 1024 ≤ room → mode_of (ran q t room 1).table a ≡ m
      modes_then room h = rw ((one_step q t room mk p.0.work h).table, step_modes t facts p.0.work) mode

      missed_then : (room : ℕ) → 1024 ≤ room → misses_now (ran q t room 1).table ≡ false
      missed_then room h = rw (one_step q t room mk p.0.work h).table (step_decided t facts p.0.work)

      rest : (room : ℕ) → 1024 ≤ room → Plays m a (book_of (ran q t room 1).table) w (work_of (ran q t room 1).table) ls os
      rest room h =
          rw ((one_step q t room mk p.0.work h).table, step_book t facts p.0.work, step_work_lem t facts p.0.work, does, missed) p.1

  -- both, where the order in work has no minimum
  prints : (ls : List Line) (t : List ℕ) → 1 ≤ length ls → is_market_of q t ≡ true → mode_of t a ≡ m → minimum_of (at (book_of t) (work_of t)) ≡ 0
      → Plays m a (book_of t) w (work_of t) ls os → PrintsOn q t w ls os
  unfolding misses_now
  prints ls t low mk mode least p =
      let missed : misses_now t ≡ false = no_minimum (mode_of t) (decided_of t) (book_of t) (work_of t) least in
      let r = plays_run (mode_of t) m a w mode os ls (book_of t) (work_of t) p in
      record {
        step_by_step = plays_steps ls t mk mode missed p;
        at_once = λ room budget h l.
            let g = rw missed at (ran_matches q (length ls) t room budget mk low h l (rw missed r.work)) in
            record {
              events = rw r.events at g.events;
              left = ap (λ (b : Book). map open_of b) g.book ∙ r.left;
              steps = g.steps ∙ r.steps;
              ended = g.work ∙ r.work;
            };
      }

-- ---- the printed book, by computing
computes : ℕ
unfolding open_of meets better faces choose best same_owner prevention meeting ending preventing causes change after play partner outcome happens work_after
computes = 0

plays_newest : Plays 1 10 printed_book 5 5 cancel_newest (0 ∷ 0 ∷ 200 ∷ 500 ∷ 0 ∷ [])
unfolding computes
plays_newest = (
  record { work = omega arith; owner = refl; balance = refl; action = refl },
  (
    record { work = omega arith; owner = refl; balance = refl; action = refl },
    (
      record { work = omega arith; owner = refl; balance = refl; action = refl },
      (
        record { work = omega arith; owner = refl; balance = refl; action = refl },
        (refl, refl),
      ),
    ),
  ),
)

plays_oldest : Plays 2 10 printed_book 5 5 cancel_oldest (0 ∷ 0 ∷ 0 ∷ 0 ∷ 400 ∷ [])
unfolding computes
plays_oldest = (
  record { work = omega arith; owner = refl; balance = refl; action = refl },
  (
    record { work = omega arith; owner = refl; balance = refl; action = refl },
    (
      record { work = omega arith; owner = refl; balance = refl; action = refl },
      (
        record { work = omega arith; owner = refl; balance = refl; action = refl },
        (
          record { work = omega arith; owner = refl; balance = refl; action = refl },
          (refl, refl),
        ),
      ),
    ),
  ),
)

plays_decrement : Plays 3 10 printed_book 5 5 decrement (0 ∷ 0 ∷ 0 ∷ 0 ∷ 200 ∷ [])
unfolding computes
plays_decrement = (
  record { work = omega arith; owner = refl; balance = refl; action = refl },
  (
    record { work = omega arith; owner = refl; balance = refl; action = refl },
    (
      record { work = omega arith; owner = refl; balance = refl; action = refl },
      (
        record { work = omega arith; owner = refl; balance = refl; action = refl },
        (
          record { work = omega arith; owner = refl; balance = refl; action = refl },
          (refl, refl),
        ),
      ),
    ),
  ),
)

no_least : minimum_of (at printed_book 5) ≡ 0
unfolding minimum_of
no_least = refl

-- ---- the examples
module _ (t : List ℕ) (market : is_market_of Equities t ≡ true) (book : book_of t ≡ printed_book) (work : work_of t ≡ 5) where
  least : minimum_of (at (book_of t) (work_of t)) ≡ 0
  least = rw (book, work) no_least

  -- Cancel Newest: 200 and 500 remain on the sell side
  pub prints_newest : mode_of t 10 ≡ 1 → PrintsOn Equities t 5 cancel_newest (0 ∷ 0 ∷ 200 ∷ 500 ∷ 0 ∷ [])
  prints_newest mode = prints Equities 1 10 5 _ cancel_newest t (omega arith) market mode least (rw (book, work) plays_newest)

  -- Cancel Oldest: 400 are posted on the buy side
  pub prints_oldest : mode_of t 10 ≡ 2 → PrintsOn Equities t 5 cancel_oldest (0 ∷ 0 ∷ 0 ∷ 0 ∷ 400 ∷ [])
  prints_oldest mode = prints Equities 2 10 5 _ cancel_oldest t (omega arith) market mode least (rw (book, work) plays_oldest)

  -- Decrement: 200 are posted on the buy side
  pub prints_decrement : mode_of t 10 ≡ 3 → PrintsOn Equities t 5 decrement (0 ∷ 0 ∷ 0 ∷ 0 ∷ 200 ∷ [])
  prints_decrement mode = prints Equities 3 10 5 _ decrement t (omega arith) market mode least (rw (book, work) plays_decrement)
