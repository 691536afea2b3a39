-- The reports of a step lead from the table before it to the table after it, and so do those of a Run.
use mathlib.Core.Path.{◌≡◌, refl, sym, ap, ◌∙◌}
use mathlib.Core.Bool.{true}
use mathlib.Core.List.{List, map, map-append}
use Prim.Native.Nat.{ℕ, zero, suc, ◌-◌, ◌≤◌}
use native.Mathlib.Omega.{arith}
use lib.Dec.{ltb}
use lib.ListN.{length}
use Rattle.octets.proofs.Bools.{split}
use Rattle.decimal.specs.declared.Instrument.{Instrument}
use Rattle.matching.specs.Matching.{Book, at, play}
use Rattle.matching.proofs.Events.{length_play}
use Rattle.matching.proofs.Steps.{Stepped, step_is}
use Rattle.matching.proofs.Fair.{step_fair, fair_balanced}
use Rattle.table.specs.Heading.{next_of, work_of, instrument_of, mode_of}
use Rattle.table.specs.Orders.{order_id_at, book_of}
use Rattle.table.specs.Market.{is_market_of}
use Rattle.table.specs.Facts.{Market}
use Rattle.table.specs.Changes.{misses_now, step_events, step_work, stepped}
use Rattle.table.proofs.Instruments.{of_market, market_instrument}
use Rattle.table.proofs.Facts.{market_facts}
use Rattle.table.proofs.Kept.{stepped_kept, stepped_instrument}
use Rattle.table.proofs.Applied.{fits_move}
use Rattle.table.proofs.OrderIds.{stepped_order_id}
use Rattle.report.specs.declared.Reading.{Reading}
use Rattle.calls.specs.Told.{joined, room_asked}
use Rattle.calls.specs.Run.{step_reports, stops, worked, ran}
use Rattle.turns.proofs.Stepping.{in_work, events_ready, events_fit, step_book, step_next}
use Rattle.turns.proofs.Taking.{goes_busy}
use Rattle.promises.proofs.Tells.{account_in}
use Rattle.promises.proofs.Exacts.{step_exact}
use Rattle.promises.proofs.OrderIds.{ids_apart}
use Rattle.promises.proofs.Leads.{Leads, Kept, kept_accounts, leads_then, leads_still}
use Rattle.promises.proofs.Playing.{TellsAll, Follows, all_follow}
use Rattle.promises.proofs.Trading.{step_paired}

-- the reports of a step tell its events
abbrev pub StepTells : (List ℕ → Reading) → List ℕ → Type 0
StepTells read t = TellsAll read t (next_of t) (step_events t)

module _ (read : List ℕ → Reading) (t : List ℕ) (m : Market t) (l : 1 ≤ work_of t) (tells : StepTells read t) where
  shape : Stepped (book_of t) (work_of t) (step_events t) (step_work t)
  unfolding step_events step_work
  shape = step_is (mode_of t) (misses_now t) (book_of t) (work_of t)

  follows : Follows read (book_of t) (order_id_at t) (ids_apart t m) t (next_of t) (step_events t)
  follows =
      all_follow read (book_of t) (order_id_at t) (ids_apart t m) (step_events t) t (next_of t) m.long (fits_move (step_events t) (book_of t) (events_fit t m l))
      (events_ready t m l) (step_exact (book_of t) (work_of t) _ (in_work t m l) shape) tells (λ k. refl) refl (λ i. refl)

  after : book_of (stepped t) ≡ play (book_of t) (step_events t)
  unfolding step_events
  after = step_book t m l

  kept : Kept t (stepped t) (map read (step_reports t))
  unfolding step_reports
  kept =
      record {
        size = ap length after ∙ length_play (step_events t) (book_of t) (events_fit t m l);
        ids = stepped_order_id t;
        next = omega (arith, step_next t m l);
        follows = λ i h. follows.accounts i h ∙ ap (λ (b : Book). account_in (at b i)) (sym after);
        others = follows.others;
      }

  pub step_leads : Leads t (stepped t) (map read (step_reports t))
  unfolding step_reports
  step_leads =
      record {
        accounts = kept_accounts t (stepped t) (map read (step_reports t)) m kept;
        balanced = follows.bought ∙ fair_balanced (book_of t) (step_fair (book_of t) (work_of t) _ shape) ∙ sym follows.sold;
        pairs = step_paired read t (next_of t) _ (next_of (stepped t)) m.long (in_work t m l) shape (events_ready t m l) tells (omega (arith, step_next t m l));
        read = follows.taken;
      }

-- ---- steps, where the reports of each tell its events
module _ (q : Instrument) (read : List ℕ → Reading) (tell : (t : List ℕ) → Market t → instrument_of t ≡ q → 1 ≤ work_of t → StepTells read t) where
  pub worked_leads : (n : ℕ) (t : List ℕ) (room : ℕ) → Market t → instrument_of t ≡ q → Leads t (worked n t room).table (map read (worked n t room).reports)
  unfolding worked
  worked_leads zero t room m i = leads_still t
  worked_leads (suc n) t room m i =
      split (stops t room)
      (λ e. rw e (leads_still t))
      (λ e.
      let l = goes_busy t room e in
      rw (e, map-append read (step_reports t) (worked n (stepped t) (room - length (joined (step_reports t)))).reports)
      (leads_then t (stepped t) _ (map read (step_reports t)) _ (step_leads read t m l (tell t m i l))
      (worked_leads n (stepped t) (room - length (joined (step_reports t))) (stepped_kept t m l) (stepped_instrument t m l ∙ i))))

  pub ran_leads : (t : List ℕ) (room budget : ℕ) → is_market_of q t ≡ true → Leads t (ran q t room budget).table (map read (ran q t room budget).reports)
  unfolding ran
  ran_leads t room budget m =
      split (ltb room room_asked)
      (λ e. rw e (leads_still t))
      (λ e. rw (e, m) (worked_leads budget t room (market_facts t (of_market q t m)) (market_instrument q t m)))
