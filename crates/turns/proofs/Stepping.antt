-- A step of the order in work: whom it is matched with, what that comes to, that its events can be told of, and the table after
-- it: its next number, its order in work, its book and its modes.
use mathlib.Core.Path.{◌≡◌, refl, sym, ap, ◌∙◌}
use mathlib.Core.Bool.{Bool, true, false, not, cond, ◌&&◌, ◌||◌}
use mathlib.Core.List.{List, [], ◌∷◌}
use Prim.Native.Nat.{ℕ, ◌+◌, ◌≤◌, ◌<◌}
use native.Mathlib.Omega.{arith}
use lib.Dec.{eqb, ltb, lit≤}
use lib.ListN.{length, set}
use borrow.Author.Tests.{ltb-true, ne_eqb, eqb-true, eqb-false}
use mir.Syntax.{w64}
use mir.Val.{Fits as FitsIn}
use Rattle.octets.specs.Octets.{bytes_of, text_bytes}
use Rattle.octets.specs.Written.{Wrote}
use Rattle.octets.proofs.Bools.{split}
use Rattle.octets.proofs.Places.{length_bytes_of}
use Rattle.octets.proofs.Parts.{length_text_bytes}
use Rattle.matching.specs.declared.Order.{Order}
use Rattle.matching.specs.declared.Event.{Event}
use Rattle.matching.specs.declared.Outcome.{Outcome}
use Rattle.matching.specs.declared.Outcome.TheVariants.{Kills}
use Rattle.matching.specs.Matching.{at, open_of, is_open, partner, meeting, ending, outcome, causes, happens, after, book_after, work_after, minimum_of, would_trade, misses, decided_after}
use Rattle.matching.specs.Held.{In, Covered, Readies}
use Rattle.matching.specs.Happens.{Fits}
use Rattle.matching.proofs.Events.{play_minimum}
use Rattle.matching.proofs.Steps.{paired, step_is, happens_fits}
use Rattle.matching.proofs.Ends.{step_two}
use Rattle.matching.proofs.Holding.{step_ready, step_held}
use Rattle.matching.proofs.Deciding.{no_minimum, idle_misses, decided_misses, noted_misses}
use Rattle.table.specs.Places.{table_bytes}
use Rattle.table.specs.Heading.{next_of, work_of, decided_of, is_listed, mode_of, put_next, put_work, put_decided, end_work}
use Rattle.table.specs.Orders.{order_at, filled, book_of, applied}
use Rattle.table.specs.Best.{book_row, put_best}
use Rattle.table.specs.Facts.{Market}
use Rattle.table.specs.Looks.{Lookable}
use Rattle.table.specs.Faced.{Ranked, First, Facing}
use Rattle.table.specs.Changes.{played, misses_now, step_events, step_work, numbered, stepped}
use Rattle.table.proofs.Same.{Same, same_in, same_then, put_below, put_above, next_same, work_same, mode_of_same, filled_few}
use Rattle.table.proofs.Stores.{next_got, work_got, decided_got}
use Rattle.table.proofs.Books.{length_book, at_book}
use Rattle.table.proofs.Frames.{framed_long}
use Rattle.table.proofs.Applied.{AllMove, Played, all_played, fits_move, framed_applied, book_applied, book_next, book_work, book_decided, book_best}
use Rattle.table.proofs.Bests.{length_book_row}
use Rattle.table.proofs.Faced.{market_placed, market_few, first_best, facing_after}
use Rattle.ticket.proofs.Running.{step_legible_first, step_legible_second}
use Rattle.calls.specs.Told.{joined}
use Rattle.calls.specs.Run.{step_reports}
use Rattle.turns.specs.declared.events.Told.{Told}
use Rattle.turns.specs.declared.step.Plan.{Plan}
use Rattle.std.specs.Bool.{then_some}
use Rattle.std.specs.Prelude.{Option, Some, None}
use Rattle.turns.specs.Turns.{Telling, Tellings, Reported, Busy, Planned, finished, Turned}
use Rattle.turns.proofs.Joins.{reports_length}
use Rattle.turns.proofs.Happening.{reports_short}

module _ (t : List ℕ) (m : Market t) (l : 1 ≤ work_of t) where
  pub in_work : In (book_of t) (work_of t)
  in_work = record { low = l; high = m.held.work }

  -- its events are ready in turn, and change amounts alone
  pub events_ready : Readies (book_of t) (step_events t)
  unfolding step_events
  events_ready = step_ready (is_listed t) (mode_of t) (misses_now t) (next_of t) (book_of t) (work_of t) in_work m.held

  pub events_fit : Fits (book_of t) (step_events t)
  unfolding step_events
  events_fit = happens_fits (mode_of t) (misses_now t) (book_of t) (work_of t) in_work

  pub step_played : Played t (step_events t)
  step_played = all_played (step_events t) t m.long (fits_move (step_events t) (book_of t) events_fit) events_ready

  pub played_long : length (played t (step_events t)) ≡ table_bytes
  played_long = framed_long t (played t (step_events t)) m.long step_played.framed

  -- the next number is still the one before, and small enough
  pub played_next : next_of (played t (step_events t)) ≡ next_of t
  played_next = next_same (same_in 28 32 step_played.heading (lit≤ tt) (lit≤ tt))

  pub numbers_left : next_of t + length (step_events t) ≤ 1000000000
  unfolding step_events
  numbers_left = (step_held (is_listed t) (mode_of t) (misses_now t) (next_of t) (book_of t) (work_of t) in_work m.held).next_high

  -- ---- numbered, and with the work ended
  later : List ℕ
  later = numbered (played t (step_events t)) (length (step_events t))

  later_long : length later ≡ table_bytes
  unfolding later numbered
  later_long = (put_below (played t (step_events t)) 28 (bytes_of 4 (next_of (played t (step_events t)) + length (step_events t))) 0 0 (lit≤ tt)).size ∙ played_long

  later_next : next_of later ≡ next_of t + length (step_events t)
  unfolding later numbered
  later_next =
      let e = played_next in
      let z = numbers_left in
      next_got (played t (step_events t)) (next_of (played t (step_events t)) + length (step_events t)) (omega arith) (omega (arith, played_long))
      ∙ ap (λ (n : ℕ). n + length (step_events t)) e

  later_above : Same later t 32 128
  unfolding later numbered
  later_above =
      let k : ℕ = next_of (played t (step_events t)) + length (step_events t) in
      same_then
      (put_above (played t (step_events t)) 28 (bytes_of 4 k) 32 128 (omega (arith, length_bytes_of 4 k)))
      (same_in 32 128 step_played.heading (lit≤ tt) (lit≤ tt))

  later_book : book_of later ≡ book_after (mode_of t) (misses_now t) (book_of t) (work_of t)
  unfolding later numbered step_events
  later_book = book_next (played t (step_events t)) _ played_long ∙ step_played.book

  -- with the work ended, and with the decision noted
  idle : List ℕ
  idle = put_work later 0 []

  idle_long : length idle ≡ table_bytes
  unfolding idle
  idle_long = (put_below later 32 (0 ∷ text_bytes 21 []) 0 0 (lit≤ tt)).size ∙ later_long

  idle_above : Same idle later 55 128
  unfolding idle
  idle_above = put_above later 32 (0 ∷ text_bytes 21 []) 55 128 (omega (arith, length_text_bytes 21 [] (lit≤ tt)))

  -- and with nothing decided, to be followed by the best levels
  ended : List ℕ
  ended = put_decided idle 0

  ended_long : length ended ≡ table_bytes
  unfolding ended
  ended_long = (put_below idle 96 (0 ∷ []) 0 0 (lit≤ tt)).size ∙ idle_long

  ended_below : Same ended idle 0 96
  unfolding ended
  ended_below = put_below idle 96 (0 ∷ []) 0 96 (lit≤ tt)

  told_below : Same (put_best ended) ended 0 97
  told_below = put_below ended 97 (book_row ended) 0 97 (lit≤ tt)

  told_idle : Same (put_best ended) idle 0 96
  told_idle = same_then (same_in 0 96 told_below (lit≤ tt) (lit≤ tt)) ended_below

  told_book : book_of (put_best ended) ≡ book_of idle
  unfolding ended
  told_book = book_best ended (book_row ended) ended_long (omega (arith, length_book_row ended)) ∙ book_decided idle 0 idle_long

  -- ---- a step
  pub step_next : next_of (stepped t) ≡ next_of t + length (step_events t)
  unfolding stepped later idle ended
  step_next =
      split (eqb (step_work t) 0)
      (λ x.
      rw x
      (next_same (same_in 28 32 told_idle (lit≤ tt) (lit≤ tt)) ∙ next_same (put_below later 32 (0 ∷ text_bytes 21 []) 28 32 (lit≤ tt)) ∙ later_next))
      (λ x. rw x (next_same (put_below later 96 _ 28 32 (lit≤ tt)) ∙ later_next))

  work_stays : (step_work t ≡ 0 → ⊥) → step_work t ≡ work_of t
  unfolding step_work work_after
  work_stays n = split (misses_now t || eqb (partner (book_of t) (work_of t)) 0) (λ x. absurd (n (rw x))) (λ x. rw x)

  pub step_work_lem : work_of (stepped t) ≡ step_work t
  unfolding stepped later idle ended
  step_work_lem =
      split (eqb (step_work t) 0)
      (λ x.
      rw x (work_same (same_in 32 33 told_idle (lit≤ tt) (lit≤ tt)) ∙ work_got later 0 [] (omega (arith, later_long)) (lit≤ tt)) ∙ sym (eqb-true _ _ x))
      (λ x.
      rw x (work_same (put_below later 96 _ 32 33 (lit≤ tt)) ∙ work_same (same_in 32 33 later_above (lit≤ tt) (lit≤ tt))) ∙ sym (work_stays (eqb-false _ _ x)))

  pub step_book : book_of (stepped t) ≡ book_after (mode_of t) (misses_now t) (book_of t) (work_of t)
  unfolding stepped later idle ended
  step_book =
      split (eqb (step_work t) 0)
      (λ x. rw x (told_book ∙ book_work later 0 [] later_long (lit≤ tt) ∙ later_book))
      (λ x. rw x (book_decided later _ later_long ∙ later_book))

  pub step_modes : mode_of (stepped t) ≡ mode_of t
  unfolding stepped later idle ended
  step_modes =
      let s : Same later t 56 96 = same_in 56 96 later_above (lit≤ tt) (lit≤ tt) in
      let r : Same idle later 56 96 = same_in 56 96 idle_above (lit≤ tt) (lit≤ tt) in
      split (eqb (step_work t) 0)
      (λ x. rw x (λ j k. mode_of_same (same_then (same_in 56 96 told_idle (lit≤ tt) (lit≤ tt)) (same_then r s)) k j))
      (λ x. rw x (λ j k. mode_of_same (same_then (put_below later 96 (decided_after (book_of t) (work_of t) ∷ []) 56 96 (lit≤ tt)) s) k j))

  minimum_stays : minimum_of (at (book_after (mode_of t) (misses_now t) (book_of t) (work_of t)) (work_of t)) ≡ minimum_of (at (book_of t) (work_of t))
  minimum_stays =
      play_minimum (work_of t) (happens (mode_of t) (misses_now t) (book_of t) (work_of t)) (book_of t)
      (happens_fits (mode_of t) (misses_now t) (book_of t) (work_of t) in_work)

  -- the decision that is noted where the work does not end
  step_noted : (step_work t ≡ 0 → ⊥) → decided_of (stepped t) ≡ decided_after (book_of t) (work_of t)
  unfolding stepped later
  step_noted n = rw (ne_eqb (step_work t) 0 n) (decided_got later _ (omega (arith, later_long)))

  -- after it no minimum is asked for: the work has ended, or the order is decided, or it has no minimum
  pub step_decided : misses_now (stepped t) ≡ false
  unfolding misses_now
  step_decided =
      split (eqb (step_work t) 0)
      (λ x. rw (step_work_lem ∙ eqb-true _ _ x) (idle_misses (mode_of (stepped t)) (decided_of (stepped t)) (book_of (stepped t))))
      (λ x.
      let w : work_of (stepped t) ≡ work_of t = step_work_lem ∙ work_stays (eqb-false _ _ x) in
      rw (step_noted (eqb-false _ _ x), step_book, w) (noted_misses (mode_of (stepped t)) (book_of t) _ (work_of t) minimum_stays))

-- ---- the order in work and the one it is matched with

module _ (t : List ℕ) (y : Busy t) where
  work_filled : work_of t ≤ filled t
  work_filled = omega (arith, y.market.held.work, length_book t)

  -- the one it is matched with is a filled record
  partner_filled : (r : ℕ) → r ≡ partner (book_of t) (work_of t) → (r ≡ 0 → ⊥) → (1 ≤ r) × (r ≤ filled t)
  partner_filled r e d =
      let p = paired (book_of t) (work_of t) r (sym e) (omega arith) in
      (omega arith, omega (arith, p.inside.high, length_book t))

  pub partner_record : (r : ℕ) → r ≡ partner (book_of t) (work_of t) → (r ≡ 0 → ⊥) → r < 256
  partner_record r e d = omega (arith, (partner_filled r e d).1, filled_few t)

  pub worker_is : (o : Order) (w : ℕ) → o ≡ order_at t w → w ≡ work_of t → o ≡ order_at t (work_of t)
  worker_is o w x e = x ∙ ap (λ (k : ℕ). order_at t k) e

  module _ (o : Order) (x : o ≡ order_at t (work_of t)) where
    worker : at (book_of t) (work_of t) ≡ o
    worker = at_book t (work_of t) y.work work_filled ∙ sym x

    pub worker_covered : Covered o
    worker_covered = rw worker at (y.market.held.sound (work_of t) (record { low = y.work; high = y.market.held.work })).covered

    -- whether it misses its minimum: not if it has none or is decided, else by what it would trade
    module _ (m : ℕ) (h : m ≡ minimum_of o) where
      pub misses_none : m ≡ 0 → false ≡ misses_now t
      unfolding misses_now
      misses_none z = sym (no_minimum (mode_of t) (decided_of t) (book_of t) (work_of t) (rw worker (sym h ∙ z)))

      pub misses_decided : (d : ℕ) → d ≡ decided_of t → (d ≡ 0 → ⊥) → false ≡ misses_now t
      unfolding misses_now
      misses_decided d e n = sym (decided_misses (mode_of t) (decided_of t) (book_of t) (work_of t) (λ z. n (e ∙ z)))

      pub lookable : (n w mode : ℕ) → n ≡ filled t → w ≡ work_of t → mode ≡ mode_of t o.mpid → Lookable t n w mode
      lookable n w mode a b c =
          record { market = y.market; size = a; work = b; some = rw b y.work; by = c ∙ rw (x, b) }

      pub misses_looked : (d q : ℕ) → d ≡ decided_of t → d ≡ 0 → q ≡ would_trade (mode_of t) (book_of t) (work_of t) → ltb q m ≡ misses_now t
      unfolding misses_now misses
      misses_looked d q e z l = rw (worker, ← h, ← l, sym e ∙ z)

    -- the decision to be noted
    pub noted_after : (d : ℕ) → d ≡ cond (ltb 0 (minimum_of o)) 1 0 → d ≡ decided_after (book_of t) (work_of t)
    unfolding decided_after
    noted_after d e = e ∙ rw worker

    module _ (f : Bool) (g : f ≡ is_open o) where
      pub partner_open : (turns firsts : List ℕ) (m r : ℕ) → f ≡ true → Facing (book_of t) (work_of t) turns firsts m → First turns r
          → r ≡ partner (book_of t) (work_of t)
      unfolding partner
      partner_open turns firsts m r h q k =
          let l : is_open (at (book_of t) (work_of t)) ≡ true = rw worker (sym g ∙ h) in
          first_best (book_of t) (work_of t) m turns firsts (market_placed t y.market) (market_few t) q (ltb-true 0 _ l) r k ∙ rw l

      pub partner_shut : f ≡ false → 0 ≡ partner (book_of t) (work_of t)
      unfolding partner
      partner_shut h = rw (worker, ← g, h)

    module _ (r : ℕ) (e : r ≡ partner (book_of t) (work_of t)) where
      module _ (missed : Bool) (v : missed ≡ misses_now t) (q : ℕ) (u : q ≡ open_of o) where
        -- an open one that misses its minimum is killed
        pub comes_killed : (missed && ltb 0 q) ≡ true → Kills q ≡ outcome (mode_of t) (misses_now t) (book_of t) (work_of t)
        unfolding outcome
        comes_killed h = rw (worker, ← v, ← u, h)

        module _ (k : (missed && ltb 0 q) ≡ false) where
          pub comes_ending : (a : Outcome) → r ≡ 0 → a ≡ ending o → a ≡ outcome (mode_of t) (misses_now t) (book_of t) (work_of t)
          unfolding outcome
          comes_ending a z h = h ∙ rw (worker, ← v, ← u, k, ← e, z)

      module _ (d : r ≡ 0 → ⊥) (s : Order) (q : s ≡ order_at t r) where
        resting : at (book_of t) r ≡ s
        resting = at_book t r (partner_filled r e d).0 (partner_filled r e d).1 ∙ sym q

        pub resting_covered : Covered s
        resting_covered =
            rw resting at
            (y.market.held.sound r (record { low = (partner_filled r e d).0; high = omega (arith, (partner_filled r e d).1, length_book t) })).covered

        pub comes_meeting : (missed : Bool) → missed ≡ misses_now t → (n : ℕ) → n ≡ open_of o → (missed && ltb 0 n) ≡ false
            → (k : ℕ) (a : Outcome) → k ≡ mode_of t o.mpid → a ≡ meeting o s k → a ≡ outcome (mode_of t) (misses_now t) (book_of t) (work_of t)
        unfolding outcome
        comes_meeting missed v n u f k a j h = h ∙ rw (worker, ← v, ← u, f, ← e, ne_eqb r 0 d, resting, j)

-- ---- what is planned
module _ (t : List ℕ) (y : Busy t) (o : Order) (w : ℕ) (x : o ≡ order_at t w) (e : w ≡ work_of t) where
  pub planned_is : (missed : Bool) (r : ℕ) (came : Outcome) (d : ℕ) (k : Option ℕ) → missed ≡ misses_now t → r ≡ partner (book_of t) (work_of t)
      → came ≡ outcome (mode_of t) (misses_now t) (book_of t) (work_of t) → d ≡ cond (ltb 0 (minimum_of o)) 1 0
      → k ≡ then_some (not (missed || eqb r 0)) d → Planned t (record { work = w; other = r; came = came; decided = k })
  planned_is missed r came d k m p c n q =
      let z : d ≡ decided_after (book_of t) (work_of t) = noted_after t y o (worker_is t y o w x e) d n in
      let f : Bool = misses_now t || eqb (partner (book_of t) (work_of t)) 0 in
      record { work = e; other = p; came = c; decided = q ∙ rw (m, p, z) (split f (λ a. rw a) (λ a. rw a)) }

-- ---- the events of a step can be told of

module _ (t : List ℕ) (y : Busy t) where
  first_telling : (e : Event) (es : List Event) → step_events t ≡ e ∷ es → Telling t (next_of t) e
  first_telling e es q =
      record {
        due = record { long = y.market.long; whose = refl; ready = (rw q at (events_ready t y.market y.work)).0 };
        legible = step_legible_first t e es y.market y.work q;
      }

  second_telling : (e f : Event) (es : List Event) → step_events t ≡ e ∷ f ∷ es → Telling (applied t e) (next_of t + 1) f
  second_telling e f es q =
      let r : Readies (book_of t) (e ∷ f ∷ es) = rw q at (events_ready t y.market y.work) in
      let m : AllMove (e ∷ f ∷ es) = fits_move (e ∷ f ∷ es) (book_of t) (rw q at (events_fit t y.market y.work)) in
      let b : book_of (applied t e) ≡ after (book_of t) e = book_applied t e y.market.long m.0 r.0 in
      record {
        due = record {
          long = framed_long t (applied t e) y.market.long (framed_applied t e y.market.long m.0 r.0);
          whose = refl;
          ready = rw b r.1.0;
        };
        legible = step_legible_second t e f es y.market y.work q;
      }

  -- there are at most two
  pub few_events : length (step_events t) ≤ 2
  unfolding step_events
  few_events = step_two (book_of t) (work_of t) _ (step_is (mode_of t) (misses_now t) (book_of t) (work_of t))

  tellings : (es : List Event) → step_events t ≡ es → Tellings t (next_of t) es
  tellings [] q = tt
  tellings (e ∷ []) q = (first_telling e [] q, tt)
  tellings (e ∷ f ∷ []) q = (first_telling e (f ∷ []) q, (second_telling e f [] q, tt))
  tellings (e ∷ f ∷ g ∷ es) q = absurd (omega (arith, few_events, ap length q))

  pub step_tellings : Tellings t (next_of t) (step_events t)
  step_tellings = tellings (step_events t) refl

  -- so the reports of a step are short
  pub step_short : length (joined (step_reports t)) ≤ 1024
  unfolding step_reports
  step_short = omega (arith, few_events, reports_short (step_events t) t (next_of t) step_tellings)

  pub step_count : length (step_reports t) ≡ length (step_events t)
  unfolding step_reports
  step_count = reports_length (step_events t) t (next_of t)

  -- ---- what the functions of a step leave, one after the other
  module _ (p : Plan) (h : Planned t p) (n : ℕ) (en : n ≡ next_of t) where
    causes_are : causes p.work p.other p.came ≡ step_events t
    unfolding step_events happens
    causes_are = rw (h.work, h.other, h.came)

    pub happen_tellings : Tellings t n (causes p.work p.other p.came)
    happen_tellings = rw (causes_are, en) step_tellings

    module _ (out : List ℕ) (x : Told) (u area : List ℕ) (q : Reported t out n (causes p.work p.other p.came) x u area) where
      all_played_is : u ≡ played t (step_events t)
      all_played_is = q.table ∙ ap (λ (es : List Event). played t es) causes_are

      counted : x.reports ≡ length (step_events t)
      counted = q.count ∙ ap length causes_are

      pub numbers_fit : FitsIn w64 (n + x.reports)
      numbers_fit = record { fits = omega (arith, en, counted, numbers_left t y.market y.work) }

      pub told_long : length u ≡ table_bytes
      told_long = rw all_played_is (played_long t y.market y.work)

      written : Wrote out 0 (joined (step_reports t)) x.bytes area
      unfolding step_reports
      written = rw (causes_are, en) at q.bytes_in

      numbered_is : put_next u (n + x.reports) ≡ numbered (played t (step_events t)) (length (step_events t))
      unfolding numbered
      numbered_is = rw (counted, all_played_is, en, played_next t y.market y.work)

      finished_is : finished u (n + x.reports) p.decided ≡ stepped t
      unfolding finished stepped step_work work_after
      finished_is =
          let e : eqb (work_of t) 0 ≡ false = ne_eqb (work_of t) 0 (λ z. omega (arith, y.work)) in
          split (misses_now t || eqb (partner (book_of t) (work_of t)) 0)
          (λ z. rw (h.decided, z, numbered_is))
          (λ z. rw (h.decided, z, e, numbered_is))

      pub step_turned : (v : List ℕ) → v ≡ finished u (n + x.reports) p.decided → Turned t out x v area
      step_turned v z = record { table = z ∙ finished_is; bytes_in = written; count = counted ∙ sym step_count }

-- whom the order in work meets after a step
pub step_facing : {t out area v turns firsts after ranks : List ℕ} {x : Told} {m r : ℕ} → Busy t → r ≡ partner (book_of t) (work_of t) → Turned t out x v area
    → Facing (book_of t) (work_of t) turns firsts m → after ≡ cond (eqb r 0) turns (set turns r 2_000_000_000_000_000_000)
    → Ranked after ranks m → Facing (book_of v) (work_of v) after ranks m
unfolding step_work
step_facing {t} {turns = turns} {firsts = firsts} {after = after} {ranks = ranks} {m = m} {r = r} y h d g s q =
    rw (d.table, step_book t y.market y.work, step_work_lem t y.market y.work)
    (facing_after (mode_of t) (book_of t) (work_of t) m turns firsts (in_work t y.market y.work) (market_few t) g r h after ranks s (misses_now t) q)

-- ---- the end of a step

module _ (t u : List ℕ) (n : ℕ) (decided : Option ℕ) (e : u ≡ put_next t n) where
  pub finish_ends : (w v : List ℕ) → decided ≡ None → w ≡ end_work u → v ≡ put_best w → v ≡ finished t n decided
  unfolding finished
  finish_ends w v z q h = h ∙ rw (z, q, e)

  pub finish_goes : (d : ℕ) (v : List ℕ) → decided ≡ Some d → v ≡ put_decided u d → v ≡ finished t n decided
  unfolding finished
  finish_goes d v z h = h ∙ rw (z, e)
