-- Why a load stops is true: at the end of the buffer, with too few bytes free, or at bytes that are no message.
use mathlib.Core.Path.{◌≡◌, refl, sym, ◌∙◌}
use mathlib.Core.Bool.{true, false, cond}
use mathlib.Core.List.{List, ◌++◌}
use Prim.Native.Nat.{ℕ, zero, suc, ◌-◌, ◌≤◌, ◌<◌, zero-le}
use native.Mathlib.Omega.{arith}
use lib.Dec.{eqb, ltb, lit≤}
use lib.ListN.{length, length-append, drop, length-drop}
use lib.Seq.{drop-drop}
use borrow.Author.Tests.{eq-eqb, ne_eqb, ltb-true}
use Rattle.octets.proofs.Bools.{split, or_l, or_r}
use Rattle.decimal.specs.declared.Instrument.{Instrument}
use Rattle.matching.specs.Matching.{Book, at, faces, count_of, met_by}
use Rattle.matching.proofs.Books.{sum_most}
use Rattle.table.specs.Heading.{work_of}
use Rattle.table.specs.Orders.{book_of}
use Rattle.table.specs.Market.{is_market, is_market_of}
use Rattle.table.specs.Changes.{stepped}
use Rattle.table.proofs.Instruments.{of_market}
use Rattle.table.proofs.Same.{filled_few}
use Rattle.table.proofs.Books.{length_book}
use Rattle.calls.specs.Told.{joined, room_asked}
use Rattle.calls.specs.Submit.{submitted}
use Rattle.calls.specs.Run.{step_reports, stops, still, Worked, worked}
use Rattle.intake.proofs.Theorems.{submit_keeps}
use Rattle.turns.proofs.Joins.{joined_append}
use Rattle.turns.proofs.Taking.{stops_still, goes_one, goes_busy}
use Rattle.turns.proofs.Theorems.{run_ends}
use Rattle.load.specs.declared.Stop.TheVariants as stop
use Rattle.load.specs.Buffer.{starts_message, Lying, End, Unreadable, Then, lying_in}
use Rattle.load.specs.Load.{taken, Loads, halted, one_more, broken, loads, stop_number}
use Rattle.load.proofs.Finding.{lying_behind, lying_ends, lying_unread}
use Rattle.load.proofs.Taking.{after, left, taken_kept, idle_table, busy_table, busy_reports, ran_table, ran_reports}
use Rattle.load.proofs.Loading.{Thens, full, spent, more, inside, thens}
use Rattle.load.proofs.Resuming.{worked_none, ending_goes, step_ends}

-- ---- 256 steps end every work, if there is room

-- an order meets at most as many as there are
met_few : (b : Book) (w : ℕ) → met_by b w ≤ length b
unfolding met_by count_of
met_few b w =
    omega (
      arith,
      sum_most (λ o. cond (faces (at b w) o) 1 0) b (length b) 1
          (λ k p q. split (faces (at b w) (at b k)) (λ t. rw t (lit≤ tt)) (λ t. rw t zero-le)),
    )

abbrev ample : ℕ
ample = 262144

ample_ends : (t : List ℕ) → is_market t ≡ true → work_of (worked 256 t ample).table ≡ 0
ample_ends t m =
    let few : met_by (book_of t) (work_of t) ≤ 255 = omega (arith, met_few (book_of t) (work_of t), length_book t, filled_few t) in
    (run_ends 256 t ample m (omega (arith, few)) (omega (arith, few))).ended

-- and if there is not, they stop for want of it
still_stops : (t : List ℕ) (room : ℕ) (w : Worked) → w ≡ still t → stops t room ≡ true → stops w.table (room - length (joined w.reports)) ≡ true
unfolding joined
still_stops t room w e s = let z : room - 0 ≡ room = omega arith in rw (e, z) s

step_stops : (n : ℕ) (t : List ℕ) (room : ℕ) → stops t room ≡ false
    → (let w = worked n (stepped t) (room - length (joined (step_reports t))) in
    stops w.table (room - length (joined (step_reports t)) - length (joined w.reports)) ≡ true)
    → stops (worked (suc n) t room).table (room - length (joined (worked (suc n) t room).reports)) ≡ true
step_stops n t room s h =
    let rs = step_reports t in
    let w = worked n (stepped t) (room - length (joined rs)) in
    let q : room - length (joined (rs ++ w.reports)) ≡ room - length (joined rs) - length (joined w.reports) =
    rw (joined_append rs w.reports) (omega (arith, length-append (joined rs) (joined w.reports))) in
    rw (goes_one t room n s, q) h

narrow_stops : (n : ℕ) (t : List ℕ) (room wide : ℕ) → work_of (worked n t wide).table ≡ 0
    → stops (worked n t room).table (room - length (joined (worked n t room).reports)) ≡ true
narrow_stops zero t room wide p =
    let i : work_of t ≡ 0 = rw (worked_none t wide) at p in
    still_stops t room (worked 0 t room) (worked_none t room) (or_l (eqb (work_of t) 0) (ltb room 1024) (eq-eqb (work_of t) 0 i))
narrow_stops (suc n) t room wide p =
    split (stops t room)
    (λ s. still_stops t room (worked (suc n) t room) (stops_still t room (suc n) s) s)
    (λ s.
    let b = ending_goes (suc n) t wide (λ z. omega (arith, goes_busy t room s)) p in
    let j : ℕ = length (joined (step_reports t)) in
    step_stops n t room s (narrow_stops n (stepped t) (room - j) (wide - j) (step_ends n t wide b p)))

-- why no more are taken of what lies in s, with so much room
pub record Halts (s : List ℕ) (room : ℕ) (l : Loads) : Type 0 where
  pub done : stop_number l.stop ≡ 0 → l.place ≡ length s
  pub narrow : stop_number l.stop ≡ 1 → room - length (joined l.reports) < 1024
  pub unread : stop_number l.stop ≡ 5 → starts_message (drop l.place s) ≡ false
  pub idle : (stop_number l.stop ≡ 1 → ⊥) → work_of l.table ≡ 0

module _ (kind : Instrument) where
  -- ---- a message that is left in work leaves too few bytes

  module _ (t message : List ℕ) (room : ℕ) (m : is_market_of kind t ≡ true) (w : work_of (taken kind t message room).table ≡ 0 → ⊥) where
    u_busy : work_of (after kind t message room) ≡ 0 → ⊥
    u_busy e = w (rw (idle_table kind t message room e) e)

    u_market : is_market_of kind (after kind t message room) ≡ true
    u_market = submit_keeps kind t message room m

    inside_table : (taken kind t message room).table ≡ (worked 256 (after kind t message room) (left kind t message room)).table
    inside_table = busy_table kind t message room u_busy ∙ ran_table kind (after kind t message room) (left kind t message room) 256 u_market

    inside_reports : (taken kind t message room).reports ≡ (submitted kind t message room).reports ++ (worked 256 (after kind t message room) (left kind t message room)).reports
    inside_reports = busy_reports kind t message room u_busy ∙ rw (ran_reports kind (after kind t message room) (left kind t message room) 256 u_market)

    pub inside_narrow : room - length (joined (taken kind t message room).reports) < 1024
    inside_narrow =
        let rs = (submitted kind t message room).reports in
        let k = worked 256 (after kind t message room) (left kind t message room) in
        let s = narrow_stops 256 (after kind t message room) (left kind t message room) ample (ample_ends (after kind t message room) (of_market kind (after kind t message room) u_market)) in
        let n : eqb (work_of k.table) 0 ≡ false = ne_eqb (work_of k.table) 0 (λ e. w (rw inside_table e)) in
        let l = ltb-true (left kind t message room - length (joined k.reports)) 1024 (or_r (eqb (work_of k.table) 0) _ s n) in
        rw (inside_reports, joined_append rs k.reports) (omega (arith, l, length-append (joined rs) (joined k.reports)))

  -- ---- messages one after another

  full_halts : (s t : List ℕ) (room : ℕ) → room < 1024 → work_of t ≡ 0 → Halts s room (halted stop.Full t)
  unfolding joined
  full_halts s t room a i =
      record { done = λ e. absurd (omega arith); narrow = λ e. omega arith; unread = λ e. absurd (omega arith); idle = λ e. i }

  spent_halts : (s t : List ℕ) (room : ℕ) → work_of t ≡ 0 → Halts s room (halted stop.Spent t)
  spent_halts s t room i =
      record { done = λ e. absurd (omega arith); narrow = λ e. absurd (omega arith); unread = λ e. absurd (omega arith); idle = λ e. i }

  module _ (s t message : List ℕ) (rest : Lying) (at : lying_in s ≡ Then message rest) (room : ℕ) (m : is_market_of kind t ≡ true) (i : work_of t ≡ 0) where
    more_halts : (l : Loads) → Halts (drop (length message) s) (room - length (joined (taken kind t message room).reports)) l
        → Halts s room (one_more message (taken kind t message room).reports l)
    more_halts l h =
        let rs = (taken kind t message room).reports in
        record {
          done = λ e. omega (arith, h.done e, length-drop (length message) s, (lying_behind s message rest at).within);
          narrow = λ e. rw (joined_append rs l.reports) (omega (arith, h.narrow e, length-append (joined rs) (joined l.reports)));
          unread = λ e. rw (← drop-drop l.place (length message) s) (h.unread e);
          idle = h.idle;
        }

    inside_halts : (work_of (taken kind t message room).table ≡ 0 → ⊥) → Halts s room (broken message (taken kind t message room))
    inside_halts w =
        record {
          done = λ e. absurd (omega arith);
          narrow = λ e. inside_narrow t message room m w;
          unread = λ e. absurd (omega arith);
          idle = λ e. absurd (e refl);
        }

    then_halts : (work_of (taken kind t message room).table ≡ 0 → Halts (drop (length message) s) (room - length (joined (taken kind t message room).reports))
        (loads kind (taken kind t message room).table rest (room - length (joined (taken kind t message room).reports))))
        → Thens kind t message rest room → Halts s room (loads kind t (Then message rest) room)
    then_halts go (full a e) = rw e (full_halts s t room a i)
    then_halts go (spent a n e) = rw e (spent_halts s t room i)
    then_halts go (more a n w e) = rw e (more_halts _ (go w))
    then_halts go (inside a n w e) = rw e (inside_halts w)

  pub halts : (l : Lying) (s : List ℕ) → lying_in s ≡ l → (t : List ℕ) (room : ℕ) → is_market_of kind t ≡ true → work_of t ≡ 0 → Halts s room (loads kind t l room)
  unfolding loads
  halts End s at t room m i =
      record { done = λ e. sym (lying_ends s at); narrow = λ e. absurd (omega arith); unread = λ e. absurd (omega arith); idle = λ e. i }
  halts Unreadable s at t room m i =
      split (ltb room room_asked)
      (λ e. rw e (full_halts s t room (ltb-true room 1024 e) i))
      (λ e.
      rw e
      (record { done = λ e. absurd (omega arith); narrow = λ e. absurd (omega arith); unread = λ e. lying_unread s at; idle = λ e. i }))
  halts (Then message rest) s at t room m i =
      then_halts s t message rest at room m i
      (λ w. halts rest (drop (length message) s) (lying_behind s message rest at).behind (taken kind t message room).table (room - length (joined (taken kind t message room).reports)) (taken_kept kind t message room m) w)
      (thens kind t message rest room)
