-- The loop over the messages: what has been taken, followed by what is still to be taken, is what all of them come to.
use mathlib.Core.Path.{◌≡◌, refl, sym, ap, ◌∙◌}
use mathlib.Core.Bool.{true, false}
use mathlib.Core.List.{List, ◌++◌}
use Prim.Native.Nat.{ℕ, ◌+◌, ◌-◌, ◌^◌, ◌≤◌, ◌<◌}
use native.Mathlib.Nat.{add-zero}
use native.Mathlib.Omega.{arith}
use lib.Dec.{eqb}
use lib.ListN.{length, length-append, take, drop, length-take, length-drop}
use lib.Seq.{length-take-le, drop-drop}
use mir.Syntax.{w64}
use mir.Val.{Fits}
use Rattle.octets.specs.Octets.{put, part_at}
use Rattle.octets.specs.Written.{Wrote}
use Rattle.octets.proofs.Places.{put_put, length_put}
use Rattle.octets.proofs.Runs.{wrote_rest}
use Rattle.decimal.specs.declared.Instrument.{Instrument}
use Rattle.table.specs.Heading.{work_of}
use Rattle.table.specs.Market.{is_market_of}
use Rattle.table.specs.Facts.{Market}
use Rattle.table.proofs.Instruments.{of_market}
use Rattle.table.proofs.Facts.{market_facts}
use Rattle.calls.specs.Told.{joined}
use Rattle.intake.specs.Intake.{Ready}
use Rattle.turns.proofs.Joins.{joined_append}
use Rattle.load.specs.declared.Stop.{Stop}
use Rattle.load.specs.declared.Stop.TheVariants as stop
use Rattle.load.specs.Buffer.{length_said, Then, lying_in}
use Rattle.load.specs.Load.{taken, halted, broken, one_more, loads}
use Rattle.load.specs.Turn.{Idle, Took, Went}
use Rattle.load.proofs.Finding.{starts_within, said_some, lying_then}
use Rattle.load.proofs.Taking.{taken_number, submit_takes, taken_kept, taken_fits}
use Rattle.load.proofs.Loading.{Takes, then_more, then_broken}

module _ (kind : Instrument) where
  -- from table t₀ and area₀, the messages before the place are taken, so many are finished, and their reports lie before at; what is
  -- still to come gives what all of them give
  pub record Along (t₀ buffer area₀ t area : List ℕ) (place finished at : ℕ) : Type 0 where
    pub idle : Idle kind t
    pub long : length area ≡ length area₀
    pub small : length area₀ < 2 ^ 64
    pub within : at ≤ length area₀
    pub small_buffer : length buffer < 2 ^ 64
    pub inside : place ≤ length buffer
    pub few : finished ≤ place
    pub stop_is : (loads kind t₀ (lying_in buffer) (length area₀)).stop ≡ (loads kind t (lying_in (drop place buffer)) (length area₀ - at)).stop
    pub place_is : (loads kind t₀ (lying_in buffer) (length area₀)).place ≡ place + (loads kind t (lying_in (drop place buffer)) (length area₀ - at)).place
    pub finished_is : (loads kind t₀ (lying_in buffer) (length area₀)).finished ≡ finished + (loads kind t (lying_in (drop place buffer)) (length area₀ - at)).finished
    pub table_is : (loads kind t₀ (lying_in buffer) (length area₀)).table ≡ (loads kind t (lying_in (drop place buffer)) (length area₀ - at)).table
    pub bytes : length (joined (loads kind t₀ (lying_in buffer) (length area₀)).reports)
        ≡ at + length (joined (loads kind t (lying_in (drop place buffer)) (length area₀ - at)).reports)
    pub written : put area₀ 0 (joined (loads kind t₀ (lying_in buffer) (length area₀)).reports)
        ≡ put area at (joined (loads kind t (lying_in (drop place buffer)) (length area₀ - at)).reports)

  -- nothing is taken yet
  pub along_first : (t buffer area : List ℕ) → Idle kind t → length area < 2 ^ 64 → length buffer < 2 ^ 64 → Along t buffer area t area 0 0 0
  along_first t buffer area y h g =
      let e : length area - 0 ≡ length area = omega arith in
      record {
        idle = y;
        long = refl;
        small = h;
        within = omega arith;
        small_buffer = g;
        inside = omega arith;
        few = omega arith;
        stop_is = rw e;
        place_is = rw e (omega arith);
        finished_is = rw e (omega arith);
        table_is = rw e;
        bytes = rw e (omega arith);
        written = rw e;
      }

  module _ (t₀ buffer area₀ t area : List ℕ) (place finished at : ℕ) (g : Along t₀ buffer area₀ t area place finished at) where
    abbrev free : ℕ
    free = length area₀ - at

    -- no more are taken
    pub stop_went : (why : Stop) → loads kind t (lying_in (drop place buffer)) (length area₀ - at) ≡ halted why t
        → Went kind t₀ buffer area₀ (record { stop = why; place = place; finished = finished; bytes = at }) t area
    unfolding joined put
    stop_went why e =
        let s = rw e at g.stop_is in
        let p = rw e at g.place_is in
        let f = rw e at g.finished_is in
        let b = rw e at g.bytes in
        record {
          answer = rw (s, p, f, b, add-zero at, add-zero place, add-zero finished);
          table = sym (rw e at g.table_is);
          bytes_in = sym (rw e at g.written);
        }

    pub free_within : at ≤ length area
    free_within = omega (arith, g.within, g.long)

    -- one is taken
    module _ (n : ℕ) (k : Takes kind t (drop place buffer) (length area₀ - at) n) where
      pub take_ready : Ready kind t
      take_ready = k.ready

      pub take_room : 1024 ≤ length (take (length area - at) (drop at area))
      take_room = simp (length-take, length-drop) (omega (arith, k.room, g.long))

      module _ (message : List ℕ) (e : message ≡ part_at buffer place n) (m : ℕ) (u part : List ℕ) (w : Took kind t message (take (length area - at) (drop at area)) m u part) where
        rest_long : length (take (length area - at) (drop at area)) ≡ free
        rest_long = length-take-le (length area - at) (drop at area) (rw (length-drop at area) (omega arith)) ∙ omega (arith, g.long)

        wrote : Wrote area at (joined (taken kind t message free).reports) (at + m) (take at area ++ (part ++ drop (length area - at) (drop at area)))
        wrote = wrote_rest area at free_within (rw rest_long at w.bytes_in)

        table_u : u ≡ (taken kind t message free).table
        table_u = rw rest_long at w.table

        bytes_m : m ≡ length (joined (taken kind t message free).reports)
        bytes_m = omega (arith, wrote.place)

        bytes_within : at + m ≤ length area₀
        bytes_within = omega (arith, bytes_m, taken_fits kind t message free k.room, g.within)

        pub at_fits : Fits w64 (at + m)
        at_fits = record { fits = omega (arith, bytes_within, g.small) }

        message_within : length_said (drop place buffer) ≤ length buffer - place
        message_within = rw (length-drop place buffer) at (starts_within (drop place buffer) k.starts)

        place_within : place + n ≤ length buffer
        place_within = omega (arith, message_within, k.long, g.inside)

        pub place_fits : Fits w64 (place + n)
        place_fits = record { fits = omega (arith, place_within, g.small_buffer) }

        after_kept : is_market_of kind u ≡ true
        after_kept = rw table_u (taken_kept kind t message free g.idle.market)

        pub after_market : Market u
        after_market = market_facts u (of_market kind u after_kept)

        message_is : message ≡ take (length_said (drop place buffer)) (drop place buffer)
        unfolding part_at
        message_is = e ∙ ap (λ (j : ℕ). take j (drop place buffer)) k.long

        message_long : length message ≡ n
        message_long =
            ap length message_is ∙ length-take-le (length_said (drop place buffer)) (drop place buffer) (starts_within (drop place buffer) k.starts) ∙ sym k.long

        behind : lying_in (drop place buffer) ≡ Then message (lying_in (drop (place + n) buffer))
        behind =
            lying_then (drop place buffer) k.starts
            ∙ rw (← message_is, ← k.long, drop-drop n place buffer)

        fresh : eqb (taken kind t message free).number 4 ≡ false
        fresh = rw (taken_number kind t message free) (submit_takes kind t message free k.ready.numbers)

        -- and is still in work
        pub broken_went : (x : ℕ) → x ≡ work_of u → (x ≡ 0 → ⊥)
            → Went kind t₀ buffer area₀ (record { stop = stop.Full; place = place + n; finished = finished; bytes = at + m }) u
            (take at area ++ (part ++ drop (length area - at) (drop at area)))
        broken_went x q z =
            let busy : work_of (taken kind t message free).table ≡ 0 → ⊥ = λ y. z (q ∙ ap work_of table_u ∙ y) in
            let b : loads kind t (lying_in (drop place buffer)) free ≡ broken message (taken kind t message free) =
            rw behind (then_broken kind t message _ free k.room fresh busy) in
            let s = rw b at g.stop_is in
            let p = rw (b, message_long) at g.place_is in
            let f = rw b at g.finished_is in
            let c = rw (b, ← bytes_m) at g.bytes in
            record {
              answer = rw (s, p, f, c, add-zero finished);
              table = table_u ∙ sym (rw b at g.table_is);
              bytes_in = wrote.bytes_in ∙ sym (rw b at g.written);
            }

        -- or finished
        pub along_on : (x : ℕ) → x ≡ work_of u → x ≡ 0
            → Along t₀ buffer area₀ u (take at area ++ (part ++ drop (length area - at) (drop at area))) (place + n) (finished + 1) (at + m)
        along_on x q z =
            let idle_u : work_of (taken kind t message free).table ≡ 0 = rw (← table_u) (sym q ∙ z) in
            let rs = (taken kind t message free).reports in
            let left : free - length (joined rs) ≡ length area₀ - (at + m) = omega (arith, bytes_m) in
            let rest = loads kind u (lying_in (drop (place + n) buffer)) (length area₀ - (at + m)) in
            let b : loads kind t (lying_in (drop place buffer)) free ≡ one_more message rs rest =
            rw (behind, table_u, ← left) (then_more kind t message _ free k.room fresh idle_u) in
            let j = joined_append rs rest.reports in
            let d : at + length (joined rs) ≡ at + m = omega (arith, bytes_m) in
            record {
              idle = record { market = after_kept; idle = sym q ∙ z; long = after_market.long };
              long = ap length wrote.bytes_in ∙ length_put area at (joined rs) ∙ g.long;
              small = g.small;
              within = bytes_within;
              small_buffer = g.small_buffer;
              inside = place_within;
              few = omega (arith, g.few, k.long, said_some (drop place buffer));
              stop_is = g.stop_is ∙ rw b;
              place_is = g.place_is ∙ rw b (omega (arith, message_long));
              finished_is = g.finished_is ∙ rw b (omega arith);
              table_is = g.table_is ∙ rw b;
              bytes = g.bytes ∙ rw (b, j) (omega (arith, bytes_m, length-append (joined rs) (joined rest.reports)));
              written =
                  g.written
                  ∙ rw (b, j, wrote.bytes_in)
                  (sym (put_put area at (joined rs) (joined rest.reports))
                  ∙ ap (λ (i : ℕ). put (put area at (joined rs)) i (joined rest.reports)) d);
            }

        pub finished_fits : Fits w64 (finished + 1)
        finished_fits = record { fits = omega (arith, g.few, place_within, g.small_buffer, k.long, said_some (drop place buffer)) }

        pub goes_less : length buffer - (place + n) < length buffer - place
        goes_less = omega (arith, place_within, k.long, said_some (drop place buffer))
