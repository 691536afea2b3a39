-- What holds of Load for every table, every buffer and every length of the report area. Each statement is in the words of the definitions;
-- the proofs lead to the laws.
use mathlib.Core.Path.{◌≡◌, refl, ap, ◌∙◌}
use mathlib.Core.Bool.{true, false}
use mathlib.Core.List.{List, ◌++◌}
use Prim.Native.Nat.{ℕ, ◌+◌, ◌-◌, ◌≤◌, ◌<◌}
use native.Mathlib.Nat.{zero-add}
use native.Mathlib.Omega.{arith}
use lib.ListN.{length, take, drop}
use Rattle.octets.specs.Octets.{put}
use Rattle.octets.specs.Written.{Room, Wrote}
use Rattle.octets.proofs.Bools.{not_both}
use Rattle.octets.proofs.Runs.{wrote_split}
use Rattle.decimal.specs.declared.Instrument.{Instrument}
use Rattle.table.specs.Heading.{next_of, work_of}
use Rattle.table.specs.Market.{is_market_of}
use Rattle.calls.specs.Told.{joined, area_after}
use Rattle.calls.specs.Run.{ran}
use Rattle.load.specs.Buffer.{starts_message, lying_in}
use Rattle.load.specs.Load.{enough, unmoved, loads, loaded, load_number, load_place, load_finished, load_bytes, load_reports, refuses}
use Rattle.load.specs.Singles.{table_after, reports_after, messages_of, calls_of}
use Rattle.load.specs.Resumes.{left_in, GoesOn}
use Rattle.load.proofs.Loading.{loads_kept, loads_next, loads_fits}
use Rattle.load.proofs.Answers.{Opens, narrow, strange, busy, went, opens}
use Rattle.load.proofs.Calling.{called}
use Rattle.load.proofs.Halting.{Halts, halts}
use Rattle.load.proofs.Onward.{Goes, not_refused, went_on}

module _ (q : Instrument) where
  module _ (t buffer : List ℕ) (room : ℕ) where
    -- ---- refusals and what is kept

    -- a call that is refused as a whole changes nothing
    pub refused_unchanged : refuses (loaded q t buffer room).answer ≡ true → loaded q t buffer room ≡ unmoved t (loaded q t buffer room).answer
    refused_unchanged h = by (opens q t buffer room)
      where
        by : Opens q t buffer room → loaded q t buffer room ≡ unmoved t (loaded q t buffer room).answer
        by (narrow a e) = rw e
        by (strange a m e) = rw e
        by (busy a m w e) = rw e
        by (went a m w e) = let z : false ≡ true = rw e at h in absurd (not_both z refl)

    -- a market stays a market
    pub load_keeps : is_market_of q t ≡ true → is_market_of q (loaded q t buffer room).table ≡ true
    load_keeps m = by (opens q t buffer room)
      where
        by : Opens q t buffer room → is_market_of q (loaded q t buffer room).table ≡ true
        by (narrow a e) = rw e m
        by (strange a n e) = rw e m
        by (busy a n w e) = rw e m
        by (went a n w e) = rw e (loads_kept q (lying_in buffer) t room m)

    -- every report takes a number
    pub load_numbers : is_market_of q t ≡ true → next_of (loaded q t buffer room).table ≡ next_of t + length (loaded q t buffer room).reports
    load_numbers m = by (opens q t buffer room)
      where
        by : Opens q t buffer room → next_of (loaded q t buffer room).table ≡ next_of t + length (loaded q t buffer room).reports
        by (narrow a e) = rw e (omega arith)
        by (strange a n e) = rw e (omega arith)
        by (busy a n w e) = rw e (omega arith)
        by (went a n w e) = rw e (loads_next q (lying_in buffer) t room m)

    -- all reports fit the report area, and their bytes and their number are what the answer says
    pub load_fits : length (joined (loaded q t buffer room).reports) ≤ room
    unfolding joined
    load_fits = by (opens q t buffer room)
      where
        by : Opens q t buffer room → length (joined (loaded q t buffer room).reports) ≤ room
        by (narrow a e) = rw e (omega arith)
        by (strange a n e) = rw e (omega arith)
        by (busy a n w e) = rw e (omega arith)
        by (went a n w e) = rw e (loads_fits q (lying_in buffer) t room)

    pub load_bytes_lem : load_bytes (loaded q t buffer room).answer ≡ length (joined (loaded q t buffer room).reports)
    unfolding joined
    load_bytes_lem = by (opens q t buffer room)
      where
        by : Opens q t buffer room → load_bytes (loaded q t buffer room).answer ≡ length (joined (loaded q t buffer room).reports)
        by (narrow a e) = rw e
        by (strange a n e) = rw e
        by (busy a n w e) = rw e
        by (went a n w e) = rw e

    pub load_counts : load_reports (loaded q t buffer room).answer ≡ length (loaded q t buffer room).reports
    load_counts = by (opens q t buffer room)
      where
        by : Opens q t buffer room → load_reports (loaded q t buffer room).answer ≡ length (loaded q t buffer room).reports
        by (narrow a e) = rw e
        by (strange a n e) = rw e
        by (busy a n w e) = rw e
        by (went a n w e) = rw e

    -- ---- a load is single calls: the table and the reports are those of Submit and Run, one call after another

    pub load_is_calls : (loaded q t buffer room).table ≡ table_after q t (calls_of q t buffer room)
    unfolding calls_of table_after
    load_is_calls = by (opens q t buffer room)
      where
        by : Opens q t buffer room → (loaded q t buffer room).table ≡ table_after q t (calls_of q t buffer room)
        by (narrow a e) = rw e
        by (strange a n e) = rw e
        by (busy a n w e) = rw e
        by (went a n w e) = rw e (called q (lying_in buffer) buffer refl t room w).table_is

    pub load_tells_calls : (loaded q t buffer room).reports ≡ reports_after q t (calls_of q t buffer room)
    unfolding calls_of reports_after
    load_tells_calls = by (opens q t buffer room)
      where
        by : Opens q t buffer room → (loaded q t buffer room).reports ≡ reports_after q t (calls_of q t buffer room)
        by (narrow a e) = rw e
        by (strange a n e) = rw e
        by (busy a n w e) = rw e
        by (went a n w e) = rw e (called q (lying_in buffer) buffer refl t room w).reports_are

    -- the messages that these calls submit, one behind another, are the bytes before the place: none is skipped, none is taken twice
    pub load_takes_all : joined (messages_of (calls_of q t buffer room)) ≡ take (load_place (loaded q t buffer room).answer) buffer
    unfolding calls_of messages_of joined
    load_takes_all = by (opens q t buffer room)
      where
        by : Opens q t buffer room → joined (messages_of (calls_of q t buffer room)) ≡ take (load_place (loaded q t buffer room).answer) buffer
        by (narrow a e) = rw e
        by (strange a n e) = rw e
        by (busy a n w e) = rw e
        by (went a n w e) = rw e (called q (lying_in buffer) buffer refl t room w).messages_are

    module _ (h : refuses (loaded q t buffer room).answer ≡ false) where
      goes : Goes q t buffer room
      goes = not_refused q t buffer room h (opens q t buffer room)

      -- all of them are finished but for the one that is still in work
      pub load_finishes : load_finished (loaded q t buffer room).answer + left_in (loaded q t buffer room).table ≡ length (messages_of (calls_of q t buffer room))
      unfolding calls_of
      load_finishes = rw goes.is (called q (lying_in buffer) buffer refl t room goes.idle).count

      -- ---- why it stops is true

      halts_so : Halts buffer room (loads q t (lying_in buffer) room)
      halts_so = halts q (lying_in buffer) buffer refl t room goes.market goes.idle

      -- 0: at the end of the buffer
      pub done_at_the_end : load_number (loaded q t buffer room).answer ≡ 0 → load_place (loaded q t buffer room).answer ≡ length buffer
      done_at_the_end k = rw goes.is (halts_so.done (rw goes.is at k))

      -- 1: fewer than 1,024 bytes are free
      pub stopped_for_room : load_number (loaded q t buffer room).answer ≡ 1 → room - load_bytes (loaded q t buffer room).answer < 1024
      stopped_for_room k = rw goes.is (halts_so.narrow (rw goes.is at k))

      -- 5: no message starts at the place
      pub stopped_unread : load_number (loaded q t buffer room).answer ≡ 5 → starts_message (drop (load_place (loaded q t buffer room).answer) buffer) ≡ false
      stopped_unread k = rw goes.is (halts_so.unread (rw goes.is at k))

      -- something is in work afterwards only where it stopped for want of room
      pub stopped_idle : (load_number (loaded q t buffer room).answer ≡ 1 → ⊥) → work_of (loaded q t buffer room).table ≡ 0
      stopped_idle k = rw goes.is (halts_so.idle (rw goes.is at k))

  -- the report area afterwards holds the reports and, behind them, what it held
  pub load_area : (t buffer area : List ℕ)
      → let written = joined (loaded q t buffer (length area)).reports in
      area_after area (loaded q t buffer (length area)).reports ≡ written ++ drop (length written) area
  load_area t buffer area =
      let rs = joined (loaded q t buffer (length area)).reports in
      let h : Room area 0 rs = record { fits = omega (arith, load_fits t buffer (length area)) } in
      let w : Wrote area 0 rs (0 + length rs) (put area 0 rs) = record { place = refl; bytes_in = refl } in
      wrote_split h w ∙ ap (λ (k : ℕ). rs ++ drop k area) (zero-add (length rs))

  -- ---- a load that stopped for want of room is gone on with: Run ends what it left in work, and a second load of the rest of the buffer,
  -- with enough room, comes to what one load with enough room comes to
  pub load_goes_on : (t buffer : List ℕ) (room further again wide : ℕ)
      → let first = loaded q t buffer room in
      let then = ran q first.table further enough in
      let second = loaded q then.table (drop (load_place first.answer) buffer) again in
      let whole = loaded q t buffer wide in
      refuses first.answer ≡ false → load_number first.answer ≡ 1 → work_of then.table ≡ 0
      → (load_number second.answer ≡ 1 → ⊥) → (load_number whole.answer ≡ 1 → ⊥) → GoesOn first then second whole
  load_goes_on t buffer room further again wide f h p n r =
      let g = not_refused q t buffer room f (opens q t buffer room) in
      rw g.is
      (went_on q t buffer room further again wide g (rw g.is at h) (rw g.is at p) (rw g.is at n) r
      (opens q (ran q (loads q t (lying_in buffer) room).table further enough).table (drop (loads q t (lying_in buffer) room).place buffer) again)
      (opens q t buffer wide))
