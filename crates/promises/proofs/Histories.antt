-- Every history: each table on the way is a market, and all reports lead from the first table to the last. The second is proved of single
-- calls, which loads stand for.
use mathlib.Core.Path.{◌≡◌, refl}
use mathlib.Core.Bool.{true}
use mathlib.Core.List.{List, [], ◌∷◌, map, map-append}
use Prim.Native.Nat.{ℕ, ◌≤◌}
use Rattle.decimal.specs.declared.Instrument.{Instrument}
use Rattle.table.specs.Heading.{work_of, instrument_of}
use Rattle.table.specs.Market.{is_market_of}
use Rattle.table.specs.Facts.{Market}
use Rattle.octets.proofs.Bools.{not_both, both_l, both_r}
use Rattle.report.specs.Reports.{read_of}
use Rattle.turns.proofs.Theorems.{run_keeps}
use Rattle.intake.proofs.Theorems.{submit_keeps}
use Rattle.load.proofs.Theorems.{load_keeps}
use Rattle.promises.specs.History.{Call, Submit, Run, Load, Depth, Top, Read, table_of, reports_of, table_after, reports_after, singles, is_single, no_load}
use Rattle.promises.proofs.Loading.{singles_table, singles_reports, singles_none}
use Rattle.promises.proofs.Leads.{Leads, leads_then, leads_still}
use Rattle.promises.proofs.Running.{StepTells, ran_leads}
use Rattle.promises.proofs.Submitting.{Told, submitted_leads}

pub call_keeps : (q : Instrument) (t : List ℕ) (c : Call) → is_market_of q t ≡ true → is_market_of q (table_of q t c) ≡ true
call_keeps q t (Submit message room) m = submit_keeps q t message room m
call_keeps q t (Run room budget) m = run_keeps q t room budget m
call_keeps q t (Load buffer room) m = load_keeps q t buffer room m
call_keeps q t (Depth side k) m = m
call_keeps q t (Top side) m = m
call_keeps q t (Read report) m = m

pub history_keeps : (q : Instrument) (cs : List Call) (t : List ℕ) → is_market_of q t ≡ true → is_market_of q (table_after q t cs) ≡ true
unfolding table_after
history_keeps q [] t m = m
history_keeps q (c ∷ cs) t m = history_keeps q cs (table_of q t c) (call_keeps q t c m)

-- where every report tells what it is of
module _ (q : Instrument) (told : Told q) (tell : (t : List ℕ) → Market t → instrument_of t ≡ q → 1 ≤ work_of t → StepTells (read_of q) t) where
  call_leads : (t : List ℕ) (c : Call) → is_market_of q t ≡ true → is_single c ≡ true → Leads t (table_of q t c) (map (read_of q) (reports_of q t c))
  call_leads t (Submit message room) m s = submitted_leads q told t message room
  call_leads t (Run room budget) m s = ran_leads q (read_of q) tell t room budget m
  call_leads t (Load buffer room) m s = absurd (not_both s refl)
  call_leads t (Depth side k) m s = leads_still t
  call_leads t (Top side) m s = leads_still t
  call_leads t (Read report) m s = leads_still t

  singles_lead : (cs : List Call) (t : List ℕ) → is_market_of q t ≡ true → no_load cs ≡ true → Leads t (table_after q t cs) (map (read_of q) (reports_after q t cs))
  unfolding table_after reports_after no_load
  singles_lead [] t m s = leads_still t
  singles_lead (c ∷ cs) t m s =
      rw (map-append (read_of q) (reports_of q t c) (reports_after q (table_of q t c) cs))
      (leads_then t (table_of q t c) _ (map (read_of q) (reports_of q t c)) _ (call_leads t c m (both_l (is_single c) (no_load cs) s))
      (singles_lead cs (table_of q t c) (call_keeps q t c m) (both_r (is_single c) (no_load cs) s)))

  pub history_leads : (cs : List Call) (t : List ℕ) → is_market_of q t ≡ true → Leads t (table_after q t cs) (map (read_of q) (reports_after q t cs))
  history_leads cs t m = rw (singles_table q cs t, singles_reports q cs t) at (singles_lead (singles q t cs) t m (singles_none q cs t))
