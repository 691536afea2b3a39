-- A call of Load that stopped for room, then Run, then a second call, by the cases of the calls.
use mathlib.Core.Path.{◌≡◌, refl, ap}
use mathlib.Core.Bool.{true, false}
use mathlib.Core.List.{List}
use Prim.Native.Nat.{ℕ, ◌≤◌}
use lib.ListN.{drop}
use Rattle.octets.proofs.Bools.{not_both}
use Rattle.decimal.specs.declared.Instrument.{Instrument}
use Rattle.table.specs.Heading.{work_of}
use Rattle.table.specs.Market.{is_market_of}
use Rattle.calls.specs.Run.{Ran, Worked, worked, ran}
use Rattle.turns.proofs.Theorems.{run_keeps}
use Rattle.load.specs.Buffer.{lying_in}
use Rattle.load.specs.Load.{enough, Loads, Loaded, done, loads, loaded, stop_number, load_number, refuses}
use Rattle.load.specs.Resumes.{GoesOn}
use Rattle.load.proofs.Taking.{ran_table, ran_reports}
use Rattle.load.proofs.Loading.{loads_kept}
use Rattle.load.proofs.Answers.{Opens, narrow, strange, busy, went}
use Rattle.load.proofs.Resuming.{Resumes, Whole, resumed}

module _ (kind : Instrument) where
  -- a call that is not refused, and one that does not stop for room on a market with nothing in work
  module _ (t buffer : List ℕ) (room : ℕ) where
    pub record Goes : Type 0 where
      pub room_in : 1024 ≤ room
      pub market : is_market_of kind t ≡ true
      pub idle : work_of t ≡ 0
      pub is : loaded kind t buffer room ≡ done (loads kind t (lying_in buffer) room)

    pub not_refused : refuses (loaded kind t buffer room).answer ≡ false → Opens kind t buffer room → Goes
    not_refused h (narrow a e) = let z : true ≡ false = rw e at h in absurd (not_both refl z)
    not_refused h (strange a m e) = let z : true ≡ false = rw e at h in absurd (not_both refl z)
    not_refused h (busy a m w e) = let z : true ≡ false = rw e at h in absurd (not_both refl z)
    not_refused h (went a m w e) = record { room_in = a; market = m; idle = w; is = e }

    pub not_narrow : is_market_of kind t ≡ true → work_of t ≡ 0 → (load_number (loaded kind t buffer room).answer ≡ 1 → ⊥) → Opens kind t buffer room → Goes
    not_narrow m i h (narrow a e) = absurd (h (rw e))
    not_narrow m i h (strange a n e) = absurd (not_both m n)
    not_narrow m i h (busy a n w e) = absurd (w i)
    not_narrow m i h (went a n w e) = record { room_in = a; market = n; idle = w; is = e }

  -- what is said of the loads is said of the calls
  calls_go_on : (a c d : Loads) (w : Worked) (first second whole : Loaded) (then : Ran) → first ≡ done a → second ≡ done c → whole ≡ done d
      → then.reports ≡ w.reports → Resumes a w c d → GoesOn first then second whole
  calls_go_on a c d w first second whole then ea ec ed er r =
      rw (ea, ec, ed)
      (record {
        number = ap (λ x. stop_number x) r.stop_is;
        place = r.place_is;
        finished = r.finished_is;
        table_is = r.table_is;
        reports_are = rw er r.reports_are;
      })

  module _ (t buffer : List ℕ) (room further again wide : ℕ) (g : Goes t buffer room) where
    abbrev first : Loads
    first = loads kind t (lying_in buffer) room

    first_market : is_market_of kind first.table ≡ true
    first_market = loads_kept kind (lying_in buffer) t room g.market

    abbrev then : Ran
    then = ran kind (loads kind t (lying_in buffer) room).table further enough

    then_market : is_market_of kind then.table ≡ true
    then_market = run_keeps kind first.table further enough first_market

    pub went_on : stop_number first.stop ≡ 1 → work_of then.table ≡ 0
        → (load_number (loaded kind then.table (drop first.place buffer) again).answer ≡ 1 → ⊥) → (load_number (loaded kind t buffer wide).answer ≡ 1 → ⊥)
        → Opens kind then.table (drop first.place buffer) again → Opens kind t buffer wide
        → GoesOn (done first) then (loaded kind then.table (drop first.place buffer) again) (loaded kind t buffer wide)
    went_on h p q r x y =
        let c = not_narrow then.table (drop first.place buffer) again then_market p q x in
        let d = not_narrow t buffer wide g.market g.idle r y in
        let e = ran_table kind first.table further 256 first_market in
        let second = loads kind then.table (lying_in (drop first.place buffer)) again in
        let whole = loads kind t (lying_in buffer) wide in
        let whole_not : Whole whole = rw d.is at r in
        let second_not : Whole (loads kind (worked 256 first.table further).table (lying_in (drop first.place buffer)) again) = rw (c.is, e) at q in
        let s : Resumes first (worked 256 first.table further) second whole =
        rw e (resumed kind (lying_in buffer) buffer refl t room further again wide g.market g.idle h (rw e at p) second_not whole_not) in
        calls_go_on first second whole (worked 256 first.table further) (done first) _ _ then refl c.is d.is
        (ran_reports kind first.table further 256 first_market) s
