-- How many steps the order in work can still take: each step leaves one fewer, so all Runs together take no more.
use mathlib.Core.Path.{◌≡◌, refl}
use mathlib.Core.Bool.{true, cond}
use mathlib.Core.List.{List, [], ◌∷◌}
use Prim.Native.Nat.{ℕ, zero, suc, ◌+◌, ◌-◌, ◌≤◌}
use native.Mathlib.Omega.{arith}
use lib.Dec.{eqb, ltb}
use lib.ListN.{length}
use borrow.Author.Tests.{ne_eqb}
use Rattle.octets.proofs.Bools.{split, not_both}
use Rattle.decimal.specs.declared.Instrument.{Instrument}
use Rattle.matching.specs.declared.Event.{Event}
use Rattle.matching.specs.Matching.{Book, met_by, play}
use Rattle.matching.specs.Held.{In}
use Rattle.matching.proofs.Steps.{Stepped, rests, kills, expires, matched, step_is, step_fits}
use Rattle.matching.proofs.Ends.{left, left_most, match_less}
use Rattle.table.specs.Heading.{work_of, mode_of}
use Rattle.table.specs.Orders.{book_of}
use Rattle.table.specs.Market.{is_market_of}
use Rattle.table.specs.Facts.{Market}
use Rattle.table.specs.Changes.{misses_now, step_work, stepped}
use Rattle.table.proofs.Instruments.{of_market}
use Rattle.table.proofs.Facts.{market_facts}
use Rattle.table.proofs.Kept.{stepped_kept}
use Rattle.calls.specs.Told.{joined, room_asked}
use Rattle.calls.specs.Run.{step_reports, stops, worked, ran, run_steps}
use Rattle.turns.proofs.Stepping.{in_work, step_book, step_work_lem}
use Rattle.turns.proofs.Taking.{goes_busy}
use Rattle.promises.specs.History.{Call, Submit, Run, Load, Depth, Top, Read, table_after, steps_after, no_submit}
use Rattle.promises.proofs.Histories.{call_keeps}

-- the steps that order w of book b can still take: none if nothing is in work
abbrev still : Book → ℕ → ℕ
still b w = cond (eqb w 0) 0 (left b w + 1)

shape_less : (b : Book) (w v : ℕ) {es : List Event} → In b w → Stepped b w es v → still (play b es) v + 1 ≤ left b w + 1
shape_less b w v i (rests z t) = omega arith
shape_less b w v i (kills h) = omega arith
shape_less b w v i (expires z h) = omega arith
shape_less b w v i (matched p m) =
    let n : w ≡ 0 → ⊥ = λ e. omega (arith, i.low) in
    rw (ne_eqb w 0 n) (omega (arith, match_less b w _ (step_fits b w w i (matched p m)) p m))

module _ (t : List ℕ) (m : Market t) (l : 1 ≤ work_of t) where
  step_less : still (book_of (stepped t)) (work_of (stepped t)) + 1 ≤ still (book_of t) (work_of t)
  unfolding step_work
  step_less =
      let n : work_of t ≡ 0 → ⊥ = λ e. omega arith in
      rw (step_book t m l, step_work_lem t m l, ne_eqb (work_of t) 0 n)
      (shape_less (book_of t) (work_of t) _ (in_work t m l) (step_is (mode_of t) (misses_now t) (book_of t) (work_of t)))

worked_less : (n : ℕ) (t : List ℕ) (room : ℕ) → Market t
    → (worked n t room).steps + still (book_of (worked n t room).table) (work_of (worked n t room).table) ≤ still (book_of t) (work_of t)
unfolding worked
worked_less zero t room m = omega arith
worked_less (suc n) t room m =
    split (stops t room)
    (λ e. rw e (omega arith))
    (λ e.
    let l = goes_busy t room e in
    rw e (omega (arith, step_less t m l, worked_less n (stepped t) (room - length (joined (step_reports t))) (stepped_kept t m l))))

ran_less : (q : Instrument) (t : List ℕ) (room budget : ℕ) → is_market_of q t ≡ true
    → run_steps (ran q t room budget).answer + still (book_of (ran q t room budget).table) (work_of (ran q t room budget).table) ≤ still (book_of t) (work_of t)
unfolding ran
ran_less q t room budget m =
    split (ltb room room_asked)
    (λ e. rw e (omega arith))
    (λ e. rw (e, m) (worked_less budget t room (market_facts t (of_market q t m))))

-- calls one after the other
after_less : (q : Instrument) (cs : List Call) (t : List ℕ) → is_market_of q t ≡ true → no_submit cs ≡ true
    → steps_after q t cs + still (book_of (table_after q t cs)) (work_of (table_after q t cs)) ≤ still (book_of t) (work_of t)
unfolding steps_after table_after
after_less q [] t m h = omega arith
after_less q (Submit message room ∷ cs) t m h = absurd (not_both h refl)
after_less q (Run room budget ∷ cs) t m h =
    omega (arith, ran_less q t room budget m, after_less q cs (ran q t room budget).table (call_keeps q t (Run room budget) m) h)
after_less q (Load buffer room ∷ cs) t m h = absurd (not_both h refl)
after_less q (Depth side k ∷ cs) t m h = omega (arith, after_less q cs t m h)
after_less q (Top side ∷ cs) t m h = omega (arith, after_less q cs t m h)
after_less q (Read report ∷ cs) t m h = omega (arith, after_less q cs t m h)

still_most : (b : Book) (w : ℕ) → still b w ≤ met_by b w + 1
still_most b w = split (eqb w 0) (λ e. rw e (omega arith)) (λ e. rw e (omega (arith, left_most b w)))

pub steps_most : (q : Instrument) (cs : List Call) (t : List ℕ) → is_market_of q t ≡ true → no_submit cs ≡ true → steps_after q t cs ≤ met_by (book_of t) (work_of t) + 1
steps_most q cs t m h = omega (arith, after_less q cs t m h, still_most (book_of t) (work_of t))
