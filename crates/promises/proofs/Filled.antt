-- Run, and any calls of which neither Submit nor Load is a part: their reports tell the trades of the steps that they take together.
use mathlib.Core.Path.{◌≡◌, refl, ◌∙◌}
use mathlib.Core.Bool.{Bool, true, false, cond}
use mathlib.Core.List.{List, [], ◌∷◌}
use Prim.Native.Nat.{ℕ, zero, suc, ◌-◌, ◌≤◌}
use lib.Dec.{ltb}
use lib.ListN.{length}
use Rattle.octets.proofs.Bools.{split, not_both}
use Rattle.decimal.specs.declared.Instrument.{Instrument}
use Rattle.table.specs.Heading.{work_of, instrument_of}
use Rattle.table.specs.Market.{is_market_of}
use Rattle.table.specs.Facts.{Market}
use Rattle.table.specs.Changes.{stepped}
use Rattle.table.proofs.Kept.{stepped_kept, stepped_instrument}
use Rattle.table.proofs.Facts.{market_facts}
use Rattle.table.proofs.Instruments.{of_market, market_instrument}
use Rattle.calls.specs.Told.{joined, room_asked}
use Rattle.calls.specs.Run.{step_reports, Worked, stops, still, one_more, worked, ran}
use Rattle.turns.proofs.Taking.{goes_busy}
use Rattle.promises.specs.History.{Call, Submit, Run, Load, Depth, Top, Read, table_after, reports_after, no_submit}
use Rattle.promises.proofs.Histories.{call_keeps}
use Rattle.promises.proofs.Fills.{Fillings, none_fills, one_fills, fillings_then}

-- steps and their reports from table t
abbrev FilledBy : Instrument → List ℕ → Worked → Type 0
FilledBy q t w = Fillings q t w.table w.reports

either : (q : Instrument) (t : List ℕ) (c : Bool) (x y : Worked) → (c ≡ true → FilledBy q t x) → (c ≡ false → FilledBy q t y) → FilledBy q t (cond c x y)
either q t true x y f g = f refl
either q t false x y f g = g refl

one_more_lem : (q : Instrument) (t : List ℕ) (rest : Worked) → instrument_of t ≡ q → Market t → 1 ≤ work_of t → FilledBy q (stepped t) rest → FilledBy q t (one_more (step_reports t) rest)
one_more_lem q t rest k m l h = fillings_then q t (stepped t) rest.table (step_reports t) rest.reports m (one_fills q t k m l) h

worked_fills : (q : Instrument) (n : ℕ) (t : List ℕ) (room : ℕ) → instrument_of t ≡ q → Market t → FilledBy q t (worked n t room)
unfolding worked
worked_fills q zero t room k m = none_fills q t m
worked_fills q (suc n) t room k m =
    either q t (stops t room) (still t) (one_more (step_reports t) (worked n (stepped t) (room - length (joined (step_reports t))))) (λ e. none_fills q t m)
    (λ e.
    let l = goes_busy t room e in
    one_more_lem q t (worked n (stepped t) (room - length (joined (step_reports t)))) k m l
    (worked_fills q n (stepped t) (room - length (joined (step_reports t))) (stepped_instrument t m l ∙ k) (stepped_kept t m l)))

ran_fills : (q : Instrument) (t : List ℕ) (room budget : ℕ) → is_market_of q t ≡ true → Fillings q t (ran q t room budget).table (ran q t room budget).reports
unfolding ran
ran_fills q t room budget m =
    let f = market_facts t (of_market q t m) in
    split (ltb room room_asked)
    (λ e. rw e (none_fills q t f))
    (λ e. rw (e, m) (worked_fills q budget t room (market_instrument q t m) f))

pub after_fills : (q : Instrument) (cs : List Call) (t : List ℕ) → is_market_of q t ≡ true → no_submit cs ≡ true → Fillings q t (table_after q t cs) (reports_after q t cs)
unfolding table_after reports_after
after_fills q [] t m h = none_fills q t (market_facts t (of_market q t m))
after_fills q (Submit message room ∷ cs) t m h = absurd (not_both h refl)
after_fills q (Run room budget ∷ cs) t m h =
    fillings_then q t (ran q t room budget).table _ (ran q t room budget).reports _ (market_facts t (of_market q t m)) (ran_fills q t room budget m)
    (after_fills q cs (ran q t room budget).table (call_keeps q t (Run room budget) m) h)
after_fills q (Load buffer room ∷ cs) t m h = absurd (not_both h refl)
after_fills q (Depth side k ∷ cs) t m h = after_fills q cs t m h
after_fills q (Top side ∷ cs) t m h = after_fills q cs t m h
after_fills q (Read report ∷ cs) t m h = after_fills q cs t m h
