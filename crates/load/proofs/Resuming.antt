-- A load that stopped for room, gone on with by Run and a second load, comes to what a load with enough room comes to: what steps and
-- messages do depends on the room only in where they stop.
use mathlib.Core.Path.{◌≡◌, refl, sym, ap, ◌∙◌}
use mathlib.Core.Bool.{true, false}
use mathlib.Core.List.{List, ◌++◌, append_assoc, append-nil}
use Prim.Native.Nat.{ℕ, zero, suc, ◌+◌, ◌-◌, ◌≤◌}
use native.Mathlib.Omega.{arith}
use lib.Dec.{eqb, ltb}
use lib.ListN.{length, drop}
use lib.Seq.{drop-drop}
use borrow.Author.Tests.{eq-eqb, eqb-true, eqb-false, le-ltb}
use Rattle.octets.proofs.Bools.{split, not_both, or_l}
use Rattle.decimal.specs.declared.Instrument.{Instrument}
use Rattle.table.specs.Heading.{work_of}
use Rattle.table.specs.Market.{is_market_of}
use Rattle.table.specs.Changes.{stepped}
use Rattle.calls.specs.Told.{joined, room_asked}
use Rattle.calls.specs.Submit.{Submitted, submitted, submit_number}
use Rattle.calls.specs.Run.{step_reports, stops, still, Worked, worked}
use Rattle.intake.proofs.Theorems.{submit_keeps}
use Rattle.turns.proofs.Taking.{stops_still, goes_one, goes_busy}
use Rattle.load.specs.declared.Stop.TheVariants as stop
use Rattle.load.specs.Buffer.{Lying, End, Unreadable, Then, lying_in}
use Rattle.load.specs.Load.{Taken, taken, Loads, halted, broken, one_more, loads, stop_number}
use Rattle.load.specs.Resumes.{left_in}
use Rattle.load.proofs.Finding.{lying_behind}
use Rattle.load.proofs.Taking.{after, left, taken_number, taken_kept, idle_table, idle_reports, busy_table, busy_reports, ran_table, ran_reports}
use Rattle.load.proofs.Loading.{Thens, full, spent, more, inside, thens, left_idle, left_busy}

-- ---- steps

pub worked_none : (t : List ℕ) (room : ℕ) → worked 0 t room ≡ still t
unfolding worked
worked_none t room = refl

idle_still : (n : ℕ) (t : List ℕ) (room : ℕ) → work_of t ≡ 0 → worked n t room ≡ still t
idle_still n t room z = stops_still t room n (or_l (eqb (work_of t) 0) (ltb room 1024) (eq-eqb (work_of t) 0 z))

-- steps that end the work of an order take one at least
pub ending_goes : (n : ℕ) (t : List ℕ) (room : ℕ) → (work_of t ≡ 0 → ⊥) → work_of (worked n t room).table ≡ 0 → stops t room ≡ false
ending_goes n t room w e = split (stops t room) (λ s. absurd (w (rw (stops_still t room n s) at e))) (λ s. s)

-- the same table and reports
pub record Same (a b : Worked) : Type 0 where
  pub table_is : a.table ≡ b.table
  pub reports_are : a.reports ≡ b.reports

step_same : (m n : ℕ) (t : List ℕ) (room wide : ℕ) → stops t room ≡ false → stops t wide ≡ false
    → Same (worked m (stepped t) (room - length (joined (step_reports t)))) (worked n (stepped t) (wide - length (joined (step_reports t))))
    → Same (worked (suc m) t room) (worked (suc n) t wide)
step_same m n t room wide a b s =
    rw (goes_one t room m a, goes_one t wide n b)
    (record { table_is = s.table_is; reports_are = ap (λ (qs : List (List ℕ)). step_reports t ++ qs) s.reports_are })

pub step_ends : (n : ℕ) (t : List ℕ) (room : ℕ) → stops t room ≡ false → work_of (worked (suc n) t room).table ≡ 0
    → work_of (worked n (stepped t) (room - length (joined (step_reports t)))).table ≡ 0
step_ends n t room a e = rw (goes_one t room n a) at e

-- steps that end the work are the same, whatever the room
ends_same : (m n : ℕ) (t : List ℕ) (room wide : ℕ) → work_of (worked m t room).table ≡ 0 → work_of (worked n t wide).table ≡ 0
    → Same (worked m t room) (worked n t wide)
ends_same zero n t room wide p q =
    let z : work_of t ≡ 0 = rw (worked_none t room) at p in
    rw (worked_none t room, idle_still n t wide z) (record { table_is = refl; reports_are = refl })
ends_same (suc m) zero t room wide p q =
    let z : work_of t ≡ 0 = rw (worked_none t wide) at q in
    rw (worked_none t wide, idle_still (suc m) t room z) (record { table_is = refl; reports_are = refl })
ends_same (suc m) (suc n) t room wide p q =
    split (eqb (work_of t) 0)
    (λ z.
    let e = eqb-true (work_of t) 0 z in
    rw (idle_still (suc m) t room e, idle_still (suc n) t wide e) (record { table_is = refl; reports_are = refl }))
    (λ z.
    let w = eqb-false (work_of t) 0 z in
    let a = ending_goes (suc m) t room w p in
    let b = ending_goes (suc n) t wide w q in
    let j : ℕ = length (joined (step_reports t)) in
    step_same m n t room wide a b (ends_same m n (stepped t) (room - j) (wide - j) (step_ends m t room a p) (step_ends n t wide b q)))

-- first and then come to whole
pub record Joins (first then whole : Worked) : Type 0 where
  pub table_is : then.table ≡ whole.table
  pub reports_are : first.reports ++ then.reports ≡ whole.reports

still_joins : (k n : ℕ) (t : List ℕ) (first : Worked) (further wide : ℕ) → first ≡ still t → work_of (worked k first.table further).table ≡ 0
    → work_of (worked n t wide).table ≡ 0 → Joins first (worked k first.table further) (worked n t wide)
still_joins k n t first further wide e p q =
    let s = ends_same k n t further wide (rw e at p) q in
    rw e (record { table_is = s.table_is; reports_are = s.reports_are })

-- steps that stop somewhere, and then steps that end the work, are those that end it at once
joins : (m k n : ℕ) (t : List ℕ) (room further wide : ℕ) → work_of (worked k (worked m t room).table further).table ≡ 0
    → work_of (worked n t wide).table ≡ 0 → Joins (worked m t room) (worked k (worked m t room).table further) (worked n t wide)
joins zero k n t room further wide p q = still_joins k n t (worked 0 t room) further wide (worked_none t room) p q
joins (suc m) k zero t room further wide p q =
    let z : work_of t ≡ 0 = rw (worked_none t wide) at q in
    still_joins k 0 t (worked (suc m) t room) further wide (idle_still (suc m) t room z) p q
joins (suc m) k (suc n) t room further wide p q =
    split (stops t room)
    (λ s. still_joins k (suc n) t (worked (suc m) t room) further wide (stops_still t room (suc m) s) p q)
    (λ s.
    let w : work_of t ≡ 0 → ⊥ = λ z. omega (arith, goes_busy t room s) in
    let b = ending_goes (suc n) t wide w q in
    let rs = step_reports t in
    let j : ℕ = length (joined rs) in
    let g = goes_one t room m s in
    let i = joins m k n (stepped t) (room - j) further (wide - j) (rw g at p) (step_ends n t wide b q) in
    rw (g, goes_one t wide n b)
    (record {
      table_is = i.table_is;
      reports_are = append_assoc rs _ _ ∙ ap (λ (qs : List (List ℕ)). rs ++ qs) i.reports_are;
    }))

-- not stopped for want of room
abbrev pub Whole : Loads → Type 0
Whole l = stop_number l.stop ≡ 1 → ⊥

-- of a load that comes to l, and of its rest
stop_of : {l k : Loads} → l ≡ k → stop_number l.stop ≡ stop_number k.stop
stop_of e = ap (λ (x : Loads). stop_number x.stop) e

-- first, then steps, and then second come to whole
pub record Resumes (first : Loads) (then : Worked) (second whole : Loads) : Type 0 where
  pub stop_is : second.stop ≡ whole.stop
  pub place_is : first.place + second.place ≡ whole.place
  pub finished_is : first.finished + left_in first.table + second.finished ≡ whole.finished
  pub table_is : second.table ≡ whole.table
  pub reports_are : first.reports ++ (then.reports ++ second.reports) ≡ whole.reports

module _ (kind : Instrument) where
  -- ---- a message

  -- Submit asks for room, and nothing else of it
  submit_same : (t message : List ℕ) (room wide : ℕ) → 1024 ≤ room → 1024 ≤ wide → submitted kind t message room ≡ submitted kind t message wide
  unfolding submitted
  submit_same t message room wide a b = rw (le-ltb room 1024 a, le-ltb wide 1024 b)

  module _ (t message : List ℕ) (room wide : ℕ) (a : 1024 ≤ room) (b : 1024 ≤ wide) where
    same : submitted kind t message room ≡ submitted kind t message wide
    same = submit_same t message room wide a b

    pub number_same : (taken kind t message room).number ≡ (taken kind t message wide).number
    number_same =
        taken_number kind t message room ∙ ap (λ (s : Submitted). submit_number s.answer) same ∙ sym (taken_number kind t message wide)

    -- a message that is left somewhere and then run to its end comes to what it comes to at once
    module _ (m : is_market_of kind t ≡ true) (k further : ℕ) (p : work_of (worked k (taken kind t message room).table further).table ≡ 0) (q : work_of (taken kind t message wide).table ≡ 0) where
      abbrev first : Worked
      first = record { table = (taken kind t message room).table; reports = (taken kind t message room).reports; steps = 0 }

      abbrev whole : Worked
      whole = record { table = (taken kind t message wide).table; reports = (taken kind t message wide).reports; steps = 0 }

      after_same : after kind t message room ≡ after kind t message wide
      after_same = ap (λ (s : Submitted). s.table) same

      reports_same : (submitted kind t message room).reports ≡ (submitted kind t message wide).reports
      reports_same = ap (λ (s : Submitted). s.reports) same

      idle_joins : work_of (after kind t message room) ≡ 0 → Joins first (worked k (taken kind t message room).table further) whole
      idle_joins z =
          let y : work_of (after kind t message wide) ≡ 0 = rw (← after_same) z in
          let i : work_of (taken kind t message room).table ≡ 0 = rw (idle_table kind t message room z) z in
          rw (idle_still k (taken kind t message room).table further i)
          (record {
            table_is = idle_table kind t message room z ∙ after_same ∙ sym (idle_table kind t message wide y);
            reports_are =
                append-nil (taken kind t message room).reports ∙ idle_reports kind t message room z ∙ reports_same ∙ sym (idle_reports kind t message wide y);
          })

      busy_joins : (work_of (after kind t message room) ≡ 0 → ⊥) → Joins first (worked k (taken kind t message room).table further) whole
      busy_joins z =
          let y : work_of (after kind t message wide) ≡ 0 → ⊥ = λ e. z (rw after_same e) in
          let u : List ℕ = after kind t message room in
          let v : is_market_of kind u ≡ true = submit_keeps kind t message room m in
          let x : is_market_of kind (after kind t message wide) ≡ true = submit_keeps kind t message wide m in
          let tr : (taken kind t message room).table ≡ (worked 256 u (left kind t message room)).table = busy_table kind t message room z ∙ ran_table kind u (left kind t message room) 256 v in
          let tw : (taken kind t message wide).table ≡ (worked 256 u (left kind t message wide)).table =
          busy_table kind t message wide y ∙ ran_table kind (after kind t message wide) (left kind t message wide) 256 x ∙ rw after_same in
          let rr : (taken kind t message room).reports ≡ (submitted kind t message room).reports ++ (worked 256 u (left kind t message room)).reports =
          busy_reports kind t message room z ∙ rw (ran_reports kind u (left kind t message room) 256 v) in
          let rv : (taken kind t message wide).reports ≡ (submitted kind t message room).reports ++ (worked 256 u (left kind t message wide)).reports =
          busy_reports kind t message wide y ∙ rw (ran_reports kind (after kind t message wide) (left kind t message wide) 256 x, after_same, reports_same) in
          let i = joins 256 k 256 u (left kind t message room) further (left kind t message wide) (rw tr at p) (rw tw at q) in
          record {
            table_is = rw (tr, tw) i.table_is;
            reports_are =
                rw (rr, rv, tr)
                (append_assoc (submitted kind t message room).reports _ _ ∙ ap (λ (qs : List (List ℕ)). (submitted kind t message room).reports ++ qs) i.reports_are);
          }

      taken_joins : Joins first (worked k (taken kind t message room).table further) whole
      taken_joins =
          split (eqb (work_of (after kind t message room)) 0)
          (λ e. idle_joins (eqb-true (work_of (after kind t message room)) 0 e))
          (λ e. busy_joins (eqb-false (work_of (after kind t message room)) 0 e))

      pub joined_table : (worked k (taken kind t message room).table further).table ≡ (taken kind t message wide).table
      joined_table = taken_joins.table_is

      pub joined_reports : (taken kind t message room).reports ++ (worked k (taken kind t message room).table further).reports ≡ (taken kind t message wide).reports
      joined_reports = taken_joins.reports_are

    -- one that is finished comes to the same whatever the room
    module _ (m : is_market_of kind t ≡ true) (p : work_of (taken kind t message room).table ≡ 0) (q : work_of (taken kind t message wide).table ≡ 0) where
      none : worked 0 (taken kind t message room).table 0 ≡ still (taken kind t message room).table
      none = worked_none (taken kind t message room).table 0

      pub table_same : (taken kind t message room).table ≡ (taken kind t message wide).table
      table_same = rw none at (joined_table m 0 0 (rw none p) q)

      pub told_same : (taken kind t message room).reports ≡ (taken kind t message wide).reports
      told_same = sym (append-nil (taken kind t message room).reports) ∙ rw none at (joined_reports m 0 0 (rw none p) q)

  -- ---- messages one after another

  module _ (t message : List ℕ) (rest : Lying) (room wide : ℕ) (m : is_market_of kind t ≡ true)
      (q : Whole (loads kind t (Then message rest) wide)) where
    -- a message that is not refused because the numbers are spent is finished where there is room
    pub record Finishes : Type 0 where
      pub room_in : 1024 ≤ wide
      pub ends : work_of (taken kind t message wide).table ≡ 0
      pub goes : loads kind t (Then message rest) wide
          ≡ one_more message (taken kind t message wide).reports (loads kind (taken kind t message wide).table rest (wide - length (joined (taken kind t message wide).reports)))

    finishes : 1024 ≤ room → eqb (taken kind t message room).number 4 ≡ false → Thens kind t message rest wide → Finishes
    finishes a n (full b d) = absurd (q (stop_of d))
    finishes a n (spent b k d) = absurd (not_both (eq-eqb (taken kind t message room).number 4 (number_same t message room wide a b ∙ k)) n)
    finishes a n (more b k w d) = record { room_in = b; ends = w; goes = d }
    finishes a n (inside b k w d) = absurd (q (stop_of d))

    spends : 1024 ≤ room → (taken kind t message room).number ≡ 4 → Thens kind t message rest wide → loads kind t (Then message rest) wide ≡ halted stop.Spent t
    spends a n (full b d) = absurd (q (stop_of d))
    spends a n (spent b k d) = d
    spends a n (more b k w d) = absurd (not_both (eq-eqb (taken kind t message wide).number 4 (sym (number_same t message room wide a b) ∙ n)) k)
    spends a n (inside b k w d) = absurd (q (stop_of d))

    -- two that are not stopped for room are the same
    then_same : ((u : List ℕ) (r w : ℕ) → is_market_of kind u ≡ true → Whole (loads kind u rest r) → Whole (loads kind u rest w) → loads kind u rest r ≡ loads kind u rest w)
        → Whole (loads kind t (Then message rest) room) → Thens kind t message rest room → loads kind t (Then message rest) room ≡ loads kind t (Then message rest) wide
    then_same go p (full a e) = absurd (p (stop_of e))
    then_same go p (spent a n e) = e ∙ sym (spends a n (thens kind t message rest wide))
    then_same go p (inside a n w e) = absurd (p (stop_of e))
    then_same go p (more a n w e) =
        let f = finishes a n (thens kind t message rest wide) in
        let b = f.room_in in
        let ts = table_same t message room wide a b m w f.ends in
        let rs = told_same t message room wide a b m w f.ends in
        let k = taken kind t message room in
        let j : ℕ = wide - length (joined (taken kind t message wide).reports) in
        let back : loads kind t (Then message rest) wide ≡ one_more message k.reports (loads kind k.table rest j) = f.goes ∙ rw (ts, rs) in
        let i =
        go k.table (room - length (joined k.reports)) j (taken_kept kind t message room m) (λ z. p (stop_of e ∙ z)) (λ z. q (stop_of back ∙ z)) in
        e ∙ ap (λ (x : Loads). one_more message k.reports x) i ∙ sym back

  pub loads_same : (l : Lying) (t : List ℕ) (room wide : ℕ) → is_market_of kind t ≡ true → Whole (loads kind t l room) → Whole (loads kind t l wide) → loads kind t l room ≡ loads kind t l wide
  unfolding loads
  loads_same End t room wide m p q = refl
  loads_same Unreadable t room wide m p q =
      split (ltb room room_asked)
      (λ e. absurd (p (rw e)))
      (λ e. split (ltb wide room_asked) (λ d. absurd (q (rw d))) (λ d. rw (e, d)))
  loads_same (Then message rest) t room wide m p q =
      then_same t message rest room wide m q (λ u r w k x y. loads_same rest u r w k x y) p (thens kind t message rest room)

  -- ---- a load, Run, and a second load

  -- nothing was taken
  module _ (t : List ℕ) (idle : work_of t ≡ 0) (further : ℕ) (first second whole : Loads) (e : first ≡ halted stop.Full t) where
    none_resumes : second ≡ whole → Resumes first (worked 256 first.table further) second whole
    none_resumes s =
        rw (e, idle_still 256 t further idle, s)
        (record { stop_is = refl; place_is = omega arith; finished_is = rw (left_idle t idle) (omega arith); table_is = refl; reports_are = refl })

  -- what is said of a load of what lies in s, by a Run and a second load
  abbrev pub Resumed : Lying → List ℕ → List ℕ → ℕ → ℕ → ℕ → ℕ → Type 0
  Resumed l s t room further again wide =
      let first = loads kind t l room in
      let then = worked 256 first.table further in
      stop_number first.stop ≡ 1 → work_of then.table ≡ 0 → Whole (loads kind then.table (lying_in (drop first.place s)) again) → Whole (loads kind t l wide)
      → Resumes first then (loads kind then.table (lying_in (drop first.place s)) again) (loads kind t l wide)

  -- there was no room in front of the first message
  full_resumed : (l : Lying) (s : List ℕ) → lying_in s ≡ l → (t : List ℕ) (room further again wide : ℕ) → is_market_of kind t ≡ true → work_of t ≡ 0
      → loads kind t l room ≡ halted stop.Full t → Resumed l s t room further again wide
  full_resumed l s at t room further again wide m idle e h p q r =
      let z = idle_still 256 t further idle in
      none_resumes t idle further (loads kind t l room) _ (loads kind t l wide) e (rw (e, z, at) (loads_same l t again wide m (rw (e, z, at) at q) r))

  module _ (s t message : List ℕ) (rest : Lying) (at : lying_in s ≡ Then message rest) (room further again wide : ℕ) (m : is_market_of kind t ≡ true) (idle : work_of t ≡ 0) where
    abbrev here : Taken
    here = taken kind t message room

    abbrev there : Taken
    there = taken kind t message wide

    abbrev onward : ℕ
    onward = wide - length (joined (taken kind t message wide).reports)

    behind_is : lying_in (drop (length message) s) ≡ rest
    behind_is = (lying_behind s message rest at).behind

    module _ (a : 1024 ≤ room) (n : eqb (taken kind t message room).number 4 ≡ false) where
      -- the message is finished, and the load stops further on
      more_resumed : work_of (taken kind t message room).table ≡ 0
          → loads kind t (Then message rest) room ≡ one_more message here.reports (loads kind here.table rest (room - length (joined here.reports)))
          → Resumed rest (drop (length message) s) here.table (room - length (joined here.reports)) further again onward
          → Resumed (Then message rest) s t room further again wide
      more_resumed w e go h p q r =
          let f = finishes t message rest room wide m r a n (thens kind t message rest wide) in
          let b = f.room_in in
          let inner = loads kind here.table rest (room - length (joined here.reports)) in
          let back : loads kind t (Then message rest) wide ≡ one_more message here.reports (loads kind here.table rest onward) =
          f.goes ∙ rw (table_same t message room wide a b m w f.ends, told_same t message room wide a b m w f.ends) in
          let d = drop-drop inner.place (length message) s in
          let i = go (rw e at h) (rw e at p) (rw (e, ← d) at q) (rw back at r) in
          rw (e, back, ← d)
          (record {
            stop_is = i.stop_is;
            place_is = omega (arith, i.place_is);
            finished_is = omega (arith, i.finished_is);
            table_is = i.table_is;
            reports_are = append_assoc here.reports _ _ ∙ ap (λ (qs : List (List ℕ)). here.reports ++ qs) i.reports_are;
          })

      -- the message is left in work: Run ends it
      inside_resumed : (work_of (taken kind t message room).table ≡ 0 → ⊥) → loads kind t (Then message rest) room ≡ broken message here
          → Resumed (Then message rest) s t room further again wide
      inside_resumed w e h p q r =
          let f = finishes t message rest room wide m r a n (thens kind t message rest wide) in
          let b = f.room_in in
          let ended : work_of (worked 256 here.table further).table ≡ 0 = rw e at p in
          let ts = joined_table t message room wide a b m 256 further ended f.ends in
          let rs = joined_reports t message room wide a b m 256 further ended f.ends in
          let x : Whole (loads kind there.table rest again) = rw (e, ts, behind_is) at q in
          let y : Whole (loads kind there.table rest onward) = rw f.goes at r in
          let i = loads_same rest there.table again onward (taken_kept kind t message wide m) x y in
          rw (e, f.goes, ts, behind_is, i)
          (record {
            stop_is = refl;
            place_is = refl;
            finished_is = rw (left_busy here.table w) (omega arith);
            table_is = refl;
            reports_are =
                sym (append_assoc here.reports _ _)
                ∙ ap (λ (qs : List (List ℕ)). qs ++ (loads kind there.table rest onward).reports) rs;
          })

    then_resumed : (work_of (taken kind t message room).table ≡ 0 → Resumed rest (drop (length message) s) here.table (room - length (joined here.reports)) further again onward)
        → Thens kind t message rest room → Resumed (Then message rest) s t room further again wide
    then_resumed go (full a e) h p q r = full_resumed (Then message rest) s at t room further again wide m idle e h p q r
    then_resumed go (spent a n e) h p q r = absurd (spent_not (sym (stop_of e) ∙ h))
      where
        spent_not : ◌≡◌ {A = ℕ} 4 1 → ⊥
        spent_not z = omega arith
    then_resumed go (more a n w e) h p q r = more_resumed a n w e (go w) h p q r
    then_resumed go (inside a n w e) h p q r = inside_resumed a n w e h p q r

  pub resumed : (l : Lying) (s : List ℕ) → lying_in s ≡ l → (t : List ℕ) (room further again wide : ℕ) → is_market_of kind t ≡ true → work_of t ≡ 0
      → Resumed l s t room further again wide
  unfolding loads
  resumed End s at t room further again wide m idle h p q r = absurd (omega arith)
  resumed Unreadable s at t room further again wide m idle h p q r =
      split (ltb room room_asked)
      (λ e. full_resumed Unreadable s at t room further again wide m idle (rw e) h p q r)
      (λ e. let z : ◌≡◌ {A = ℕ} 5 1 = rw e at h in absurd (omega arith))
  resumed (Then message rest) s at t room further again wide m idle h p q r =
      then_resumed s t message rest at room further again wide m idle
      (λ w. resumed rest (drop (length message) s) (behind_is s t message rest at room further again wide m idle) (taken kind t message room).table (room - length (joined (taken kind t message room).reports)) further again
      (wide - length (joined (taken kind t message wide).reports)) (taken_kept kind t message room m) w)
      (thens kind t message rest room)
      h p q r
