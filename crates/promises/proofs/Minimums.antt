-- What becomes of an order with a minimum, whatever calls follow: any Runs together are one run of matching from where they began, and so
-- the order has traded its minimum when its work has ended, or was killed whole.
use mathlib.Core.Path.{◌≡◌, refl, sym, ap, ◌∙◌}
use mathlib.Core.Bool.{Bool, true, false, ◌&&◌}
use mathlib.Core.List.{List, [], ◌∷◌, ◌++◌, map, append-nil, map-append}
use mathlib.Core.Logic.{◌⊎◌, inl, inr, ⊎_elim}
use Prim.Native.Nat.{ℕ, zero, suc, ◌+◌, ◌-◌, ◌≤◌, ◌<◌}
use native.Mathlib.Omega.{arith}
use lib.Dec.{eqb, ltb}
use lib.ListN.{length}
use borrow.Author.Tests.{ne_eqb}
use Rattle.octets.proofs.Bools.{split, not_both}
use Rattle.decimal.specs.declared.Instrument.{Instrument}
use Rattle.matching.specs.Matching.{Book, at, open_of, happens, Ran, run, minimum_of, misses}
use Rattle.matching.specs.Held.{In}
use Rattle.matching.specs.Runs.{KilledWhole}
use Rattle.matching.proofs.Events.{length_play}
use Rattle.matching.proofs.Steps.{run_plays, run_fits}
use Rattle.matching.proofs.Theorems as matching
use Rattle.table.specs.Heading.{work_of, instrument_of, decided_of, mode_of}
use Rattle.table.specs.Orders.{order_id_at, order_at, filled, book_of}
use Rattle.table.specs.Market.{is_market_of}
use Rattle.table.specs.Facts.{Market}
use Rattle.table.specs.Changes.{misses_now, step_events, step_work, stepped}
use Rattle.table.proofs.Instruments.{of_market, market_instrument}
use Rattle.table.proofs.Facts.{market_facts}
use Rattle.table.proofs.Kept.{stepped_kept, stepped_instrument}
use Rattle.table.proofs.OrderIds.{stepped_order_id}
use Rattle.table.proofs.Books.{length_book, at_book}
use Rattle.report.specs.declared.Reading.{Reading}
use Rattle.report.specs.Reports.{read_of}
use Rattle.calls.specs.Told.{joined, room_asked}
use Rattle.calls.specs.Run.{step_reports, stops, worked, ran}
use Rattle.turns.proofs.Stepping.{step_book, step_work_lem, step_modes, step_decided}
use Rattle.turns.proofs.Taking.{goes_busy}
use Rattle.turns.proofs.Agreeing.{run_one}
use Rattle.promises.specs.History.{Call, Submit, Run, Load, Depth, Top, Read, table_after, reports_after, no_submit}
use Rattle.promises.specs.Shown.{ReportsOf}
use Rattle.promises.specs.Minimums.{CanceledWhole, Reached}
use Rattle.promises.proofs.Agreeing.{step_reports_lem, reports_same, reports_append}
use Rattle.promises.proofs.Histories.{call_keeps}
use Rattle.promises.proofs.Putting.{Put, nothing, undecided}

-- table u with the reports rs is what n steps of matching lead to from table t
pub record Stepping (t u : List ℕ) (rs : List Reading) (n : ℕ) : Type 0 where
  pub book : book_of u ≡ (run (mode_of t) (misses_now t) n (book_of t) (work_of t)).book
  pub work : work_of u ≡ (run (mode_of t) (misses_now t) n (book_of t) (work_of t)).work
  pub modes : mode_of u ≡ mode_of t
  pub missed : misses_now u ≡ (eqb n 0 && misses_now t)
  pub ids : (i : ℕ) → order_id_at u i ≡ order_id_at t i
  pub events : ReportsOf (order_id_at t) rs (run (mode_of t) (misses_now t) n (book_of t) (work_of t)).events

pub record Steps (t u : List ℕ) (rs : List Reading) : Type 0 where
  pub number : ℕ
  pub by : Stepping t u rs number

-- no step
pub none_stepping : (t : List ℕ) → Stepping t t [] 0
unfolding run
none_stepping t = record { book = refl; work = refl; modes = refl; missed = refl; ids = λ i. refl; events = tt }

none_steps : (t : List ℕ) → Steps t t []
none_steps t = record { number = 0; by = none_stepping t }

-- one
pub one_stepping : (q : Instrument) (t : List ℕ) → instrument_of t ≡ q → Market t → 1 ≤ work_of t → Stepping t (stepped t) (map (read_of q) (step_reports t)) 1
unfolding run step_events step_work
one_stepping q t k m l =
    let e = run_one (mode_of t) (misses_now t) 0 (book_of t) (work_of t) l in
    let n = append-nil (happens (mode_of t) (misses_now t) (book_of t) (work_of t)) in
    record {
      book = step_book t m l ∙ ap (λ (r : Ran). r.book) (sym e);
      work = step_work_lem t m l ∙ ap (λ (r : Ran). r.work) (sym e);
      modes = step_modes t m l;
      missed = step_decided t m l;
      ids = stepped_order_id t;
      events = rw (e, n) (step_reports_lem q t k m l);
    }

one_step : (q : Instrument) (t : List ℕ) → instrument_of t ≡ q → Market t → 1 ≤ work_of t → Steps t (stepped t) (map (read_of q) (step_reports t))
one_step q t k m l = record { number = 1; by = one_stepping q t k m l }

-- some and then others
missed_then : (m n : ℕ) (x : Bool) → (eqb n 0 && (eqb m 0 && x)) ≡ (eqb (m + n) 0 && x)
missed_then zero zero x = refl
missed_then zero (suc n) x = rw (ne_eqb (suc n) 0 (λ e. omega arith), ne_eqb (zero + suc n) 0 (λ e. omega arith))
missed_then (suc m) n x =
    rw (ne_eqb (suc m) 0 (λ e. omega arith), ne_eqb (suc m + n) 0 (λ e. omega arith)) (no (eqb n 0))
  where
    no : (y : Bool) → (y && false) ≡ false
    no true = refl
    no false = refl

pub stepping_then : (t u v : List ℕ) (rs qs : List Reading) (m n : ℕ) → Stepping t u rs m → Stepping u v qs n → Stepping t v (rs ++ qs) (m + n)
stepping_then t u v rs qs m n a b =
    let g = matching.goes_on (mode_of t) (misses_now t) m n (book_of t) (work_of t) in
    let first = run (mode_of t) (misses_now t) m (book_of t) (work_of t) in
    let e : run (mode_of u) (misses_now u) n (book_of u) (work_of u) ≡ run (mode_of t) (eqb m 0 && misses_now t) n first.book first.work =
    rw (a.modes, a.missed, a.book, a.work) in
    let f = rw e at (reports_same (order_id_at u) (order_id_at t) a.ids qs (run (mode_of u) (misses_now u) n (book_of u) (work_of u)).events b.events) in
    record {
      book = b.book ∙ ap (λ (r : Ran). r.book) e ∙ sym g.book;
      work = b.work ∙ ap (λ (r : Ran). r.work) e ∙ sym g.work;
      modes = b.modes ∙ a.modes;
      missed = b.missed ∙ ap (λ (x : Bool). eqb n 0 && x) a.missed ∙ missed_then m n (misses_now t);
      ids = λ i. b.ids i ∙ a.ids i;
      events = rw g.events (reports_append (order_id_at t) rs qs _ _ a.events f);
    }

steps_then : (t u v : List ℕ) (rs qs : List Reading) → Steps t u rs → Steps u v qs → Steps t v (rs ++ qs)
steps_then t u v rs qs a b = record { number = a.number + b.number; by = stepping_then t u v rs qs a.number b.number a.by b.by }

-- Run, and calls of which neither Submit nor Load is a part
worked_steps : (q : Instrument) (n : ℕ) (t : List ℕ) (room : ℕ) → instrument_of t ≡ q → Market t → Steps t (worked n t room).table (map (read_of q) (worked n t room).reports)
unfolding worked
worked_steps q zero t room k m = none_steps t
worked_steps q (suc n) t room k m =
    split (stops t room)
    (λ e. rw e (none_steps t))
    (λ e.
    let l = goes_busy t room e in
    rw (e, map-append (read_of q) (step_reports t) (worked n (stepped t) (room - length (joined (step_reports t)))).reports)
    (steps_then t (stepped t) _ (map (read_of q) (step_reports t)) _ (one_step q t k m l)
    (worked_steps q n (stepped t) (room - length (joined (step_reports t))) (stepped_instrument t m l ∙ k) (stepped_kept t m l))))

ran_steps : (q : Instrument) (t : List ℕ) (room budget : ℕ) → is_market_of q t ≡ true → Steps t (ran q t room budget).table (map (read_of q) (ran q t room budget).reports)
unfolding ran
ran_steps q t room budget m =
    split (ltb room room_asked)
    (λ e. rw e (none_steps t))
    (λ e. rw (e, m) (worked_steps q budget t room (market_instrument q t m) (market_facts t (of_market q t m))))

pub after_steps : (q : Instrument) (cs : List Call) (t : List ℕ) → is_market_of q t ≡ true → no_submit cs ≡ true → Steps t (table_after q t cs) (map (read_of q) (reports_after q t cs))
unfolding table_after reports_after
after_steps q [] t m h = none_steps t
after_steps q (Submit message room ∷ cs) t m h = absurd (not_both h refl)
after_steps q (Run room budget ∷ cs) t m h =
    rw (map-append (read_of q) (ran q t room budget).reports (reports_after q (ran q t room budget).table cs))
    (steps_then t (ran q t room budget).table _ (map (read_of q) (ran q t room budget).reports) _ (ran_steps q t room budget m)
    (after_steps q cs (ran q t room budget).table (call_keeps q t (Run room budget) m) h))
after_steps q (Load buffer room ∷ cs) t m h = absurd (not_both h refl)
after_steps q (Depth side k ∷ cs) t m h = after_steps q cs t m h
after_steps q (Top side ∷ cs) t m h = after_steps q cs t m h
after_steps q (Read report ∷ cs) t m h = after_steps q cs t m h

-- ---- the order in work, open and not decided yet, once its work has ended
module _ (q : Instrument) (t : List ℕ) (m : is_market_of q t ≡ true) (l : 1 ≤ work_of t) (o : 0 < open_of (order_at t (work_of t))) (d : decided_of t ≡ 0) where
  facts : Market t
  facts = market_facts t (of_market q t m)

  inside : In (book_of t) (work_of t)
  inside = record { low = l; high = facts.held.work }

  here : at (book_of t) (work_of t) ≡ order_at t (work_of t)
  here = at_book t (work_of t) l (omega (arith, facts.held.work, length_book t))

  undecided_now : misses_now t ≡ misses (mode_of t) 0 (book_of t) (work_of t)
  unfolding misses_now
  undecided_now = rw d

  module _ (u : List ℕ) (rs : List Reading) (n : ℕ) (s : Stepping t u rs n) (same : filled u ≡ filled t) (z : work_of u ≡ 0) where
    abbrev w : ℕ
    w = work_of t

    abbrev ended : Ran
    ended = run (mode_of t) (misses (mode_of t) 0 (book_of t) w) n (book_of t) w

    book_ended : book_of u ≡ ended.book
    book_ended = rw undecided_now at s.book

    order_ended : (i : ℕ) → 1 ≤ i → i ≤ filled t → order_at u i ≡ at ended.book i
    order_ended i a b = sym (at_book u i a (omega arith)) ∙ ap (λ (b : Book). at b i) book_ended

    work_high : w ≤ filled t
    work_high = omega (arith, facts.held.work, length_book t)

    by_kill : KilledWhole (book_of t) w ended → CanceledWhole t u rs w
    by_kill k =
        record {
          report = rw (undecided_now, k.events, here) at s.events;
          shut = rw (order_ended w l work_high) k.shut;
          others = λ i a b x. order_ended i a b ∙ k.others i x ∙ at_book t i a b;
        }

    by_trade : minimum_of (at (book_of t) w) ≤ (at ended.book w).executed - (at (book_of t) w).executed → Reached t u w
    by_trade h =
        let e : minimum_of (at (book_of t) w) ≡ minimum_of (order_at t w) = ap minimum_of here in
        record { executed = rw (order_ended w l work_high) (omega arith) }

    pub minimum_stepped : CanceledWhole t u rs w ⊎ Reached t u w
    minimum_stepped =
        let p : 0 < open_of (at (book_of t) w) = rw here o in
        let y : ended.work ≡ 0 = sym (rw undecided_now at s.work) ∙ z in
        ⊎_elim (λ (k : KilledWhole (book_of t) w ended). inl (by_kill k))
        (λ (k : minimum_of (at (book_of t) w) ≤ (at ended.book w).executed - (at (book_of t) w).executed). inr (by_trade k))
        (matching.minimum_kept (mode_of t) (book_of t) w inside n p y)

  pub minimum_after : (cs : List Call) → no_submit cs ≡ true → work_of (table_after q t cs) ≡ 0
      → CanceledWhole t (table_after q t cs) (map (read_of q) (reports_after q t cs)) (work_of t) ⊎ Reached t (table_after q t cs) (work_of t)
  minimum_after cs h z =
      let s = after_steps q cs t m h in
      minimum_stepped (table_after q t cs) (map (read_of q) (reports_after q t cs)) s.number s.by
      (same_size (table_after q t cs) (map (read_of q) (reports_after q t cs)) s.number s.by) z
    where
      same_size : (u : List ℕ) (rs : List Reading) (n : ℕ) → Stepping t u rs n → filled u ≡ filled t
      same_size u rs n s =
          sym (length_book u) ∙ ap length s.book
          ∙ ap length (run_plays (mode_of t) (misses_now t) n (book_of t) (work_of t))
          ∙ length_play _ (book_of t) (run_fits (mode_of t) (misses_now t) n (book_of t) (work_of t) facts.held.work)
          ∙ length_book t

-- what was put in work, once its work has ended
pub minimum_put : (q : Instrument) (t : List ℕ) → is_market_of q t ≡ true → Put t → 1 ≤ work_of t → (cs : List Call) → no_submit cs ≡ true → work_of (table_after q t cs) ≡ 0
    → CanceledWhole t (table_after q t cs) (map (read_of q) (reports_after q t cs)) (work_of t) ⊎ Reached t (table_after q t cs) (work_of t)
minimum_put q t m (nothing z) l cs = absurd (omega arith)
minimum_put q t m (undecided o d) l cs =
    minimum_after q t m l (rw (at_book t (work_of t) l (omega (arith, (market_facts t (of_market q t m)).held.work, length_book t))) at o) d cs
