-- The loop of steps: what has been done, followed by what is left to do, is what the whole budget comes to. Then the answers of
-- Run, test by test in the order of the refusals.
use mathlib.Core.Path.{◌≡◌, refl, sym, ap, ◌∙◌}
use mathlib.Core.Bool.{Bool, true, false, not, ◌||◌}
use mathlib.Core.List.{List, ◌++◌, append-nil}
use Prim.Native.Nat.{ℕ, suc, ◌+◌, ◌-◌, ◌^◌, ◌≤◌, ◌<◌}
use native.Mathlib.Nat.{add-zero}
use native.Mathlib.Omega.{arith}
use lib.Dec.{eqb, ltb}
use lib.ListN.{length, length-append, take, drop, length-take, length-drop}
use borrow.Author.Tests.{lt-ltb, le-ltb, eq-eqb, eqb-true, eqb-false}
use mir.Syntax.{w64}
use mir.Val.{Fits}
use Rattle.octets.specs.Octets.{put}
use Rattle.octets.proofs.Bools.{split, or_l, neither_l, neither_r}
use Rattle.octets.proofs.Places.{put_put, length_put}
use Rattle.octets.proofs.Runs.{wrote_rest}
use Rattle.decimal.specs.declared.Instrument.{Instrument}
use Rattle.matching.specs.Matching.{partner, work_after}
use Rattle.table.specs.Heading.{next_of, work_of}
use Rattle.table.specs.Orders.{book_of}
use Rattle.table.specs.Changes.{misses_now, step_work, stepped}
use Rattle.table.specs.Market.{is_market_of}
use Rattle.table.specs.Facts.{Market}
use Rattle.table.proofs.Instruments.{of_market}
use Rattle.table.proofs.Facts.{market_facts}
use Rattle.table.proofs.Kept.{stepped_kept}
use Rattle.std.specs.Prelude.{Result, Ok, Err}
use Rattle.refusals.specs.declared.Refusal.{Refusal}
use Rattle.refusals.specs.declared.Refusal.TheVariants.{NoRoom, NoMarket}
use Rattle.calls.specs.declared.Progress.{Progress}
use Rattle.calls.specs.Told.{joined, area_after}
use Rattle.calls.specs.Run.{step_reports, stops, still, one_more, worked, ran}
use Rattle.turns.specs.declared.events.Told.{Told}
use Rattle.turns.specs.Turns.{Busy, Turned, Walked}
use Rattle.turns.proofs.Joins.{joined_append}
use Rattle.turns.proofs.Stepping.{step_next, step_work_lem, step_short, step_count}
use Rattle.turns.proofs.Taking.{stops_still, goes_one, goes_busy, goes_room}

-- from table t₀ and area₀, so many steps of the budget are taken, with so many reports in the bytes before at; the rest of the steps
-- from here on gives what all of them give
pub record Going (t₀ area₀ : List ℕ) (budget : ℕ) (t area : List ℕ) (at reports taken : ℕ) : Type 0 where
  pub market : Market t
  pub long : length area ≡ length area₀
  pub small : length area₀ < 2 ^ 64
  pub within : at ≤ length area₀
  pub few : taken ≤ budget
  pub numbers : reports ≤ next_of t
  pub table : (worked budget t₀ (length area₀)).table ≡ (worked (budget - taken) t (length area₀ - at)).table
  pub bytes : length (joined (worked budget t₀ (length area₀)).reports) ≡ at + length (joined (worked (budget - taken) t (length area₀ - at)).reports)
  pub count : length (worked budget t₀ (length area₀)).reports ≡ reports + length (worked (budget - taken) t (length area₀ - at)).reports
  pub steps : (worked budget t₀ (length area₀)).steps ≡ taken + (worked (budget - taken) t (length area₀ - at)).steps
  pub written : put area₀ 0 (joined (worked budget t₀ (length area₀)).reports) ≡ put area at (joined (worked (budget - taken) t (length area₀ - at)).reports)

-- whether to stop, as it is asked
pub stops_asked : (t : List ℕ) (w free : ℕ) → w ≡ work_of t → (eqb w 0 || ltb free 1024) ≡ stops t free
stops_asked t w free e = rw e

-- nothing is done yet
pub going_first : (t area : List ℕ) (budget : ℕ) → Market t → length area < 2 ^ 64 → Going t area budget t area 0 0 0
going_first t area budget m h =
    let e : length area - 0 ≡ length area = omega arith in
    let f : budget - 0 ≡ budget = omega arith in
    record {
      market = m;
      long = refl;
      small = h;
      within = omega arith;
      few = omega arith;
      numbers = omega arith;
      table = rw (e, f);
      bytes = rw (e, f) (omega arith);
      count = rw (e, f) (omega arith);
      steps = rw (e, f) (omega arith);
      written = rw (e, f);
    }

-- ---- a step more

module _ (t₀ area₀ : List ℕ) (budget : ℕ) (t area : List ℕ) (at reports taken : ℕ) (g : Going t₀ area₀ budget t area at reports taken)
    (l : taken < budget) (f : Bool) (e : f ≡ stops t (length area₀ - at)) where
  -- what all the steps come to if there is no step more
  module _ (z : f ≡ true) where
    stopped : worked (budget - taken) t (length area₀ - at) ≡ still t
    stopped = stops_still t (length area₀ - at) (budget - taken) (sym e ∙ z)

    pub stop_walked : Walked t₀ area₀ budget (record { bytes = at; reports = reports; steps = taken }) t area
    unfolding joined put
    stop_walked =
        let b = rw stopped at g.bytes in
        let c = rw stopped at g.count in
        let s = rw stopped at g.steps in
        record {
          answer = rw (b, c, s, add-zero at, add-zero reports, add-zero taken);
          table = sym (rw stopped at g.table);
          bytes_in = sym (rw stopped at g.written);
        }

  module _ (z : f ≡ false) where
    goes : stops t (length area₀ - at) ≡ false
    goes = sym e ∙ z

    pub step_busy : Busy t
    step_busy = record { market = g.market; work = goes_busy t (length area₀ - at) goes }

    free : 1024 ≤ length area₀ - at
    free = goes_room t (length area₀ - at) goes

    pub step_within : at ≤ length area
    step_within = omega (arith, g.within, g.long)

    pub step_room : 1024 ≤ length (take (length area - at) (drop at area))
    step_room = simp (length-take, length-drop) (omega (arith, free, g.long))

    module _ (r : Told) (u part : List ℕ) (x : Turned t (take (length area - at) (drop at area)) r u part) where
      -- the bytes and the reports of the step, in number
      step_bytes : r.bytes ≡ length (joined (step_reports t))
      step_bytes = omega (arith, x.bytes_in.place)

      bytes_within : at + r.bytes ≤ length area₀
      bytes_within = omega (arith, free, step_bytes, step_short t step_busy)

      pub bytes_fit : Fits w64 (at + r.bytes)
      bytes_fit = record { fits = omega (arith, bytes_within, g.small) }

      next_more : next_of u ≡ next_of t + r.reports
      next_more = rw (x.table, x.count, step_count t step_busy) (step_next t g.market step_busy.work)

      after_market : Market u
      after_market = rw x.table (stepped_kept t g.market step_busy.work)

      pub reports_fit : Fits w64 (reports + r.reports)
      reports_fit = record { fits = omega (arith, g.numbers, next_more, after_market.held.next_high) }

      rest_is : worked (budget - taken) t (length area₀ - at)
          ≡ one_more (step_reports t) (worked (budget - (taken + 1)) u (length area₀ - (at + r.bytes)))
      rest_is =
          let a : budget - taken ≡ suc (budget - (taken + 1)) = omega arith in
          let b : length area₀ - (at + r.bytes) ≡ length area₀ - at - length (joined (step_reports t)) = omega (arith, step_bytes) in
          rw (a, b, x.table) (goes_one t (length area₀ - at) (budget - (taken + 1)) goes)

      pub going_on : Going t₀ area₀ budget u (take at area ++ (part ++ drop (length area - at) (drop at area))) (at + r.bytes) (reports + r.reports) (taken + 1)
      going_on =
          let w = wrote_rest area at step_within x.bytes_in in
          let rest = worked (budget - (taken + 1)) u (length area₀ - (at + r.bytes)) in
          let rs = step_reports t in
          let j = joined_append rs rest.reports in
          let q = length-append (joined rs) (joined rest.reports) in
          let d : at + length (joined rs) ≡ at + r.bytes = omega (arith, step_bytes) in
          record {
            market = after_market;
            long = ap length w.bytes_in ∙ length_put area at (joined rs) ∙ g.long;
            small = g.small;
            within = bytes_within;
            few = omega arith;
            numbers = omega (arith, g.numbers, next_more);
            table = g.table ∙ rw rest_is;
            bytes = g.bytes ∙ rw (rest_is, j) (omega (arith, step_bytes));
            count = g.count ∙ rw rest_is (omega (arith, x.count, length-append rs rest.reports));
            steps = g.steps ∙ rw rest_is (omega arith);
            written =
                g.written
                ∙ rw (rest_is, j, w.bytes_in)
                (sym (put_put area at (joined rs) (joined rest.reports))
                ∙ ap (λ (k : ℕ). put (put area at (joined rs)) k (joined rest.reports)) d);
          }

-- the budget is spent
pub spent_walked : (t₀ area₀ : List ℕ) (budget : ℕ) (t area : List ℕ) (at reports taken : ℕ) → Going t₀ area₀ budget t area at reports taken
    → budget ≤ taken → Walked t₀ area₀ budget (record { bytes = at; reports = reports; steps = budget }) t area
unfolding worked joined put
spent_walked t₀ area₀ budget t area at reports taken g l =
    let z : budget - taken ≡ 0 = omega arith in
    let k : taken ≡ budget = omega (arith, g.few) in
    let b = rw z at g.bytes in
    let c = rw z at g.count in
    let s = rw z at g.steps in
    record {
      answer = rw (b, c, s, add-zero at, add-zero reports, add-zero taken, k);
      table = sym (rw z at g.table);
      bytes_in = sym (rw z at g.written);
    }

-- ---- an order in work that meets nobody

module _ (t area : List ℕ) (budget : ℕ) (f : Bool) (e : f ≡ stops t (length area)) where
  -- no step of it is taken
  none_worked : (eqb budget 0 || f) ≡ true → worked budget t (length area) ≡ still t
  unfolding worked
  none_worked h =
      split (eqb budget 0) (λ z. rw (eqb-true budget 0 z)) (λ z. stops_still t (length area) budget (sym e ∙ (rw z at h)))

  pub none_walked : (eqb budget 0 || f) ≡ true → Walked t area budget (record { bytes = 0; reports = 0; steps = 0 }) t area
  unfolding joined put
  none_walked h = let w = none_worked h in record { answer = rw w; table = rw w; bytes_in = rw w }

  module _ (h : (eqb budget 0 || f) ≡ false) where
    last_goes : stops t (length area) ≡ false
    last_goes = sym e ∙ neither_r (eqb budget 0) f h

    pub last_busy : Market t → Busy t
    last_busy m = record { market = m; work = goes_busy t (length area) last_goes }

    pub last_room : 1024 ≤ length area
    last_room = goes_room t (length area) last_goes

    -- one step is, and nothing is in work after it
    module _ (m : Market t) (p : partner (book_of t) (work_of t) ≡ 0) where
      last_idle : work_of (stepped t) ≡ 0
      unfolding step_work work_after
      last_idle =
          step_work_lem t m (last_busy m).work
          ∙ rw p (split (misses_now t) (λ z. rw z) (λ z. rw z))

      last_worked : worked budget t (length area) ≡ one_more (step_reports t) (still (stepped t))
      last_worked =
          let b : budget ≡ suc (budget - 1) = omega (arith, eqb-false budget 0 (neither_l (eqb budget 0) f h)) in
          let left : ℕ = length area - length (joined (step_reports t)) in
          let s = stops_still (stepped t) left (budget - 1) (or_l (eqb (work_of (stepped t)) 0) (ltb left 1024) (eq-eqb (work_of (stepped t)) 0 last_idle)) in
          ap (λ (k : ℕ). worked k t (length area)) b ∙ goes_one t (length area) (budget - 1) last_goes ∙ rw s

      pub last_walked : (r : Told) (u written : List ℕ) → Turned t area r u written
          → Walked t area budget (record { bytes = r.bytes; reports = r.reports; steps = 1 }) u written
      last_walked r u written x =
          let b : r.bytes ≡ length (joined (step_reports t)) = omega (arith, x.bytes_in.place) in
          record {
            answer = rw (last_worked, append-nil, b, x.count);
            table = x.table ∙ rw last_worked;
            bytes_in = x.bytes_in.bytes_in ∙ rw (last_worked, append-nil);
          }

pub alone_partner : (t : List ℕ) (f : Bool) → (f ≡ true → partner (book_of t) (work_of t) ≡ 0) → f ≡ true → partner (book_of t) (work_of t) ≡ 0
alone_partner t f g h = g h

pub last_partner : (t : List ℕ) → partner (book_of t) (work_of t) ≡ 0 → 0 ≡ partner (book_of t) (work_of t)
last_partner t e = sym e

-- ---- Run

-- what is answered of steps that are taken
abbrev answered : Progress → Result Progress Refusal
answered p = Ok p

-- what Run leaves
pub record Leaves (q : Instrument) (t area : List ℕ) (budget : ℕ) (r : Result Progress Refusal) (after written : List ℕ) : Type 0 where
  pub answer : r ≡ (ran q t (length area) budget).answer
  pub table : after ≡ (ran q t (length area) budget).table
  pub bytes_in : written ≡ area_after area (ran q t (length area) budget).reports

module _ (q : Instrument) (t area : List ℕ) (budget : ℕ) where
  pub run_no_room : length area < 1024 → Leaves q t area budget (Err NoRoom) t area
  unfolding ran joined put
  run_no_room h =
      let e = lt-ltb (length area) 1024 h in
      record { answer = rw e; table = rw e; bytes_in = rw e }

  module _ (l : 1024 ≤ length area) (f : Bool) (p : f ≡ is_market_of q t) where
    pub run_no_market : not f ≡ true → Leaves q t area budget (Err NoMarket) t area
    unfolding ran joined put
    run_no_market h =
        let e : not (is_market_of q t) ≡ true = rw (← p) h in
        let d = le-ltb (length area) 1024 l in
        record { answer = rw (d, e); table = rw (d, e); bytes_in = rw (d, e) }

    pub run_market : not f ≡ false → Market t
    run_market h = market_facts t (of_market q t (sym p ∙ yes f h))
      where
        yes : (b : Bool) → not b ≡ false → b ≡ true
        yes true e = refl
        yes false e = sym e

    pub run_walked : not f ≡ false → (r : Progress) (u written : List ℕ) → Walked t area budget r u written → Leaves q t area budget (Ok r) u written
    unfolding ran
    run_walked h r u written w =
        let e : not (is_market_of q t) ≡ false = rw (← p) h in
        let d = le-ltb (length area) 1024 l in
        record { answer = rw (d, e) (ap answered w.answer); table = rw (d, e) w.table; bytes_in = rw (d, e) w.bytes_in }
