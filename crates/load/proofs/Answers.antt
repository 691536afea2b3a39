-- The answers of Load: the three refusals in their order, then what the messages of the buffer leave.
use mathlib.Core.Path.{◌≡◌, refl, sym, ap, ◌∙◌}
use mathlib.Core.Bool.{Bool, true, false, not}
use mathlib.Core.List.{List}
use Prim.Native.Nat.{ℕ, ◌+◌, ◌-◌, ◌≤◌, ◌<◌}
use native.Mathlib.Omega.{arith}
use lib.Dec.{eqb, ltb}
use lib.ListN.{length}
use borrow.Author.Tests.{eq-eqb, ne_eqb, eqb-true, eqb-false, lt-ltb, le-ltb, ltb-true, ltb-false, not-true, not-false}
use Rattle.octets.specs.Octets.{put}
use Rattle.octets.proofs.Bools.{split}
use Rattle.decimal.specs.declared.Instrument.{Instrument}
use Rattle.table.specs.Places.{table_bytes}
use Rattle.table.specs.Heading.{next_of, work_of}
use Rattle.table.specs.Market.{is_market_of}
use Rattle.table.specs.Facts.{Market}
use Rattle.table.proofs.Instruments.{of_market}
use Rattle.table.proofs.Facts.{market_facts}
use Rattle.calls.specs.Told.{joined, area_after}
use Rattle.std.specs.Prelude.{Result, Ok, Err}
use Rattle.refusals.specs.declared.Refusal.{Refusal}
use Rattle.refusals.specs.declared.Refusal.TheVariants.{NoRoom, NoMarket, InWork}
use Rattle.load.specs.declared.LoadProgress.{LoadProgress}
use Rattle.load.specs.declared.go.Halt.{Halt}
use Rattle.load.specs.Buffer.{lying_in}
use Rattle.load.specs.Load.{Loaded, unmoved, done, loads, loaded}
use Rattle.load.specs.Turn.{Idle, Went}
use Rattle.load.proofs.Loading.{loads_kept, loads_next}

-- the four cases of the call
pub data Opens (kind : Instrument) (t buffer : List ℕ) (room : ℕ) : Type 0 where
  narrow : room < 1024 → loaded kind t buffer room ≡ unmoved t (Err NoRoom) → Opens kind t buffer room
  strange : 1024 ≤ room → is_market_of kind t ≡ false → loaded kind t buffer room ≡ unmoved t (Err NoMarket) → Opens kind t buffer room
  busy : 1024 ≤ room → is_market_of kind t ≡ true → (work_of t ≡ 0 → ⊥) → loaded kind t buffer room ≡ unmoved t (Err InWork) → Opens kind t buffer room
  went : 1024 ≤ room → is_market_of kind t ≡ true → work_of t ≡ 0 → loaded kind t buffer room ≡ done (loads kind t (lying_in buffer) room) → Opens kind t buffer room

module _ (kind : Instrument) where
  pub opens : (t buffer : List ℕ) (room : ℕ) → Opens kind t buffer room
  unfolding loaded
  opens t buffer room =
      split (ltb room 1024) (λ x. narrow (ltb-true room 1024 x) (rw x)) (λ x.
      let a = ltb-false room 1024 x in
      split (not (is_market_of kind t)) (λ y. strange a (not-true _ y) (rw (x, y))) (λ y.
      let m = not-false _ y in
      split (not (eqb (work_of t) 0)) (λ z. busy a m (eqb-false (work_of t) 0 (not-true _ z)) (rw (x, y, z))) (λ z.
      went a m (eqb-true (work_of t) 0 (not-false _ z)) (rw (x, y, z)))))

  -- the answer, the table and the report area afterwards are those of s
  pub record Leaves (s : Loaded) (area : List ℕ) (r : Result LoadProgress Refusal) (after written : List ℕ) : Type 0 where
    pub answers : r ≡ s.answer
    pub table_is : after ≡ s.table
    pub area_is : written ≡ area_after area s.reports

  unmoved_leaves : (t area : List ℕ) (a : Result LoadProgress Refusal) → Leaves (unmoved t a) area a t area
  unfolding joined put
  unmoved_leaves t area a = record { answers = refl; table_is = refl; area_is = refl }

  module _ (t buffer area : List ℕ) where
    pub no_room : length area < 1024 → Leaves (loaded kind t buffer (length area)) area (Err NoRoom) t area
    unfolding loaded
    no_room h = rw (lt-ltb (length area) 1024 h) (unmoved_leaves t area (Err NoRoom))

    module _ (room : 1024 ≤ length area) (f : Bool) (p : f ≡ is_market_of kind t) where
      pub no_market : not f ≡ true → Leaves (loaded kind t buffer (length area)) area (Err NoMarket) t area
      unfolding loaded
      no_market h = rw (le-ltb (length area) 1024 room, ← p, h) (unmoved_leaves t area (Err NoMarket))

      module _ (m : not f ≡ false) where
        is_market_lem : is_market_of kind t ≡ true
        is_market_lem = sym p ∙ not-false f m

        market_is : Market t
        market_is = market_facts t (of_market kind t is_market_lem)

        pub market_long : length t ≡ table_bytes
        market_long = market_is.long

        module _ (w : ℕ) (q : w ≡ work_of t) where
          pub in_work : (w ≡ 0 → ⊥) → Leaves (loaded kind t buffer (length area)) area (Err InWork) t area
          unfolding loaded
          in_work h = rw (le-ltb (length area) 1024 room, ← p, m, ← q, ne_eqb w 0 h) (unmoved_leaves t area (Err InWork))

          module _ (z : w ≡ 0) where
            pub idle_is : Idle kind t
            idle_is = record { market = is_market_lem; idle = sym q ∙ z; long = market_long }

            module _ (n : ℕ) (e : n ≡ next_of t) (h : Halt) (u written : List ℕ) (g : Went kind t buffer area h u written) where
              kept : is_market_of kind u ≡ true
              kept = rw g.table (loads_kept kind (lying_in buffer) t (length area) is_market_lem)

              pub after_long : length u ≡ table_bytes
              after_long = (market_facts u (of_market kind u kept)).long

              module _ (k : ℕ) (s : k ≡ next_of u) where
                numbers : k ≡ n + length (loads kind t (lying_in buffer) (length area)).reports
                numbers = s ∙ ap next_of g.table ∙ loads_next kind (lying_in buffer) t (length area) is_market_lem ∙ rw e

                pub numbers_up : n ≤ k
                numbers_up = omega (arith, numbers)

                pub loaded_leaves : Leaves (loaded kind t buffer (length area)) area (Ok (record { halt = h; reports = k - n })) u written
                unfolding loaded
                loaded_leaves =
                    let l = loads kind t (lying_in buffer) (length area) in
                    let c : k - n ≡ length l.reports = omega (arith, numbers) in
                    rw (le-ltb (length area) 1024 room, ← p, m, ← q, eq-eqb w 0 z, g.answer, c)
                    (record { answers = refl; table_is = g.table; area_is = g.bytes_in })
