-- Run as a call: a market stays a market, every report takes a number, and all of them fit the area.
use mathlib.Core.Path.{◌≡◌, refl, ap, ◌∙◌}
use mathlib.Core.Bool.{true}
use mathlib.Core.List.{List, ◌++◌}
use Prim.Native.Nat.{ℕ, zero, suc, ◌+◌, ◌-◌, ◌≤◌}
use native.Mathlib.Nat.{zero-add}
use native.Mathlib.Omega.{arith}
use lib.Dec.{ltb}
use lib.ListN.{length, drop, length-append}
use Rattle.octets.specs.Octets.{put}
use Rattle.octets.specs.Written.{Room, Wrote}
use Rattle.octets.proofs.Bools.{split}
use Rattle.octets.proofs.Runs.{wrote_split}
use Rattle.decimal.specs.declared.Instrument.{Instrument}
use Rattle.table.specs.Heading.{next_of}
use Rattle.table.specs.Market.{is_market_of}
use Rattle.table.specs.Facts.{Market}
use Rattle.table.specs.Changes.{stepped}
use Rattle.table.proofs.Instruments.{of_market, market_instrument, instrument_market}
use Rattle.table.proofs.Facts.{market_facts, facts_market}
use Rattle.table.proofs.Kept.{stepped_kept}
use Rattle.calls.specs.Told.{joined, area_after, room_asked}
use Rattle.calls.specs.Run.{step_reports, stops, worked, ran, run_steps}
use Rattle.turns.specs.Turns.{Busy}
use Rattle.turns.proofs.Joins.{joined_append}
use Rattle.turns.proofs.Stepping.{step_next, step_short, step_count}
use Rattle.turns.proofs.Taking.{goes_busy, goes_room, worked_kept, worked_instrument, worked_few}

-- ---- steps

-- every report takes a number
pub worked_next : (n : ℕ) (t : List ℕ) (room : ℕ) → Market t → next_of (worked n t room).table ≡ next_of t + length (worked n t room).reports
unfolding worked
worked_next zero t room m = omega arith
worked_next (suc n) t room m =
    split (stops t room)
    (λ e. rw e (omega arith))
    (λ e.
    let l = goes_busy t room e in
    let y : Busy t = record { market = m; work = l } in
    let rs = step_reports t in
    let left : ℕ = room - length (joined rs) in
    let qs = (worked n (stepped t) left).reports in
    rw e
    (omega (
      arith,
      worked_next n (stepped t) left (stepped_kept t m l),
      step_next t m l,
      step_count t y,
      length-append rs qs,
    )))

-- all reports fit the room
pub worked_fits : (n : ℕ) (t : List ℕ) (room : ℕ) → Market t → length (joined (worked n t room).reports) ≤ room
unfolding worked joined
worked_fits zero t room m = omega arith
worked_fits (suc n) t room m =
    split (stops t room)
    (λ e. rw e (omega arith))
    (λ e.
    let l = goes_busy t room e in
    let y : Busy t = record { market = m; work = l } in
    let rs = step_reports t in
    let left : ℕ = room - length (joined rs) in
    let qs = (worked n (stepped t) left).reports in
    rw (e, joined_append rs qs)
    (omega (
      arith,
      goes_room t room e,
      step_short t y,
      worked_fits n (stepped t) left (stepped_kept t m l),
      length-append (joined rs) (joined qs),
    )))

-- ---- the call

-- Run, whatever it answers, leaves a market a market that trades the same
pub ran_kept : (q : Instrument) (t : List ℕ) (room budget : ℕ) → is_market_of q t ≡ true → is_market_of q (ran q t room budget).table ≡ true
unfolding ran
ran_kept q t room budget m =
    split (ltb room room_asked)
    (λ e. rw e m)
    (λ e.
    let f = market_facts t (of_market q t m) in
    let u : List ℕ = (worked budget t room).table in
    let g = worked_kept budget t room f in
    rw (e, m) (instrument_market q u (facts_market u g) g.kind (worked_instrument budget t room f ∙ market_instrument q t m)))

pub ran_next : (q : Instrument) (t : List ℕ) (room budget : ℕ) → is_market_of q t ≡ true
    → next_of (ran q t room budget).table ≡ next_of t + length (ran q t room budget).reports
unfolding ran
ran_next q t room budget m =
    split (ltb room room_asked)
    (λ e. rw e (omega arith))
    (λ e. rw (e, m) (worked_next budget t room (market_facts t (of_market q t m))))

pub ran_fits : (q : Instrument) (t : List ℕ) (room budget : ℕ) → length (joined (ran q t room budget).reports) ≤ room
unfolding ran joined
ran_fits q t room budget =
    split (ltb room room_asked)
    (λ e. rw e (omega arith))
    (λ e.
    split (is_market_of q t)
    (λ m. rw (e, m) (worked_fits budget t room (market_facts t (of_market q t m))))
    (λ m. rw (e, m) (omega arith)))

pub ran_few : (q : Instrument) (t : List ℕ) (room budget : ℕ) → run_steps (ran q t room budget).answer ≤ budget
unfolding ran
ran_few q t room budget =
    split (ltb room room_asked)
    (λ e. rw e (omega arith))
    (λ e.
    split (is_market_of q t)
    (λ m. rw (e, m) (worked_few budget t room))
    (λ m. rw (e, m) (omega arith)))

-- so the area is the reports and, behind them, what it was
pub ran_area : (q : Instrument) (t area : List ℕ) (budget : ℕ)
    → let rs = joined (ran q t (length area) budget).reports in
    area_after area (ran q t (length area) budget).reports ≡ rs ++ drop (length rs) area
ran_area q t area budget =
    let rs = joined (ran q t (length area) budget).reports in
    let h : Room area 0 rs = record { fits = omega (arith, ran_fits q t (length area) budget) } in
    let w : Wrote area 0 rs (0 + length rs) (put area 0 rs) = record { place = refl; bytes_in = refl } in
    wrote_split h w ∙ ap (λ (k : ℕ). rs ++ drop k area) (zero-add (length rs))
