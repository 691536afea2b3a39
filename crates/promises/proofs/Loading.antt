-- A history with loads is the history with the single calls that they stand for: the same tables, the same reports, as many steps. So what
-- is proved of histories without loads holds of every history.
use mathlib.Core.Path.{◌≡◌, refl, sym, ◌∙◌}
use mathlib.Core.Bool.{true}
use mathlib.Core.List.{List, [], ◌∷◌, ◌++◌, map, append_assoc, append-nil}
use Prim.Native.Nat.{ℕ, ◌+◌}
use native.Mathlib.Omega.{arith}
use lib.ListN.{drop}
use Rattle.octets.proofs.Bools.{both_i, both_l, both_r}
use Rattle.decimal.specs.declared.Instrument.{Instrument}
use Rattle.calls.specs.Submit.{submitted}
use Rattle.calls.specs.Run.{ran}
use Rattle.load.specs.Load.{enough, loaded, load_place}
use Rattle.load.specs.Singles as load
use Rattle.load.specs.Singles.{Single, Submits, Runs, calls_of}
use Rattle.load.specs.Resumes.{GoesOn}
use Rattle.load.proofs.Theorems.{load_is_calls, load_tells_calls}
use Rattle.promises.specs.History.{Call, Submit, Run, Load, Depth, Top, Read, table_of, reports_of, table_after, reports_after, steps_in, steps_of, steps_after, single, apart, singles, is_single, no_load}

module _ (q : Instrument) where
  -- ---- calls and further calls

  after_table : (cs ds : List Call) (t : List ℕ) → table_after q t (cs ++ ds) ≡ table_after q (table_after q t cs) ds
  unfolding table_after
  after_table [] ds t = refl
  after_table (c ∷ cs) ds t = after_table cs ds (table_of q t c)

  after_reports : (cs ds : List Call) (t : List ℕ) → reports_after q t (cs ++ ds) ≡ reports_after q t cs ++ reports_after q (table_after q t cs) ds
  unfolding table_after reports_after
  after_reports [] ds t = refl
  after_reports (c ∷ cs) ds t = rw (after_reports cs ds (table_of q t c)) (sym (append_assoc (reports_of q t c) _ _))

  after_steps : (cs ds : List Call) (t : List ℕ) → steps_after q t (cs ++ ds) ≡ steps_after q t cs + steps_after q (table_after q t cs) ds
  unfolding table_after steps_after
  after_steps [] ds t = omega arith
  after_steps (c ∷ cs) ds t = omega (arith, after_steps cs ds (table_of q t c))

  after_none : (cs ds : List Call) → no_load cs ≡ true → no_load ds ≡ true → no_load (cs ++ ds) ≡ true
  unfolding no_load
  after_none [] ds a b = b
  after_none (c ∷ cs) ds a b = both_i (both_l (is_single c) (no_load cs) a) (after_none cs ds (both_r (is_single c) (no_load cs) a) b)

  -- ---- the single calls of a load

  single_table : (cs : List Single) (t : List ℕ) → table_after q t (map single cs) ≡ load.table_after q t cs
  unfolding table_after load.table_after
  single_table [] t = refl
  single_table (Submits message room ∷ cs) t = single_table cs (submitted q t message room).table
  single_table (Runs room budget ∷ cs) t = single_table cs (ran q t room budget).table

  single_reports : (cs : List Single) (t : List ℕ) → reports_after q t (map single cs) ≡ load.reports_after q t cs
  unfolding reports_after load.reports_after
  single_reports [] t = refl
  single_reports (Submits message room ∷ cs) t = rw (single_reports cs (submitted q t message room).table)
  single_reports (Runs room budget ∷ cs) t = rw (single_reports cs (ran q t room budget).table)

  single_steps : (cs : List Single) (t : List ℕ) → steps_after q t (map single cs) ≡ steps_in q t cs
  unfolding steps_after steps_in
  single_steps [] t = refl
  single_steps (Submits message room ∷ cs) t = omega (arith, single_steps cs (submitted q t message room).table)
  single_steps (Runs room budget ∷ cs) t = omega (arith, single_steps cs (ran q t room budget).table)

  single_none : (cs : List Single) → no_load (map single cs) ≡ true
  unfolding no_load
  single_none [] = refl
  single_none (Submits message room ∷ cs) = single_none cs
  single_none (Runs room budget ∷ cs) = single_none cs

  -- ---- one call taken apart

  apart_table : (t : List ℕ) (c : Call) → table_after q t (apart q t c) ≡ table_of q t c
  unfolding table_after
  apart_table t (Submit message room) = refl
  apart_table t (Run room budget) = refl
  apart_table t (Load buffer room) = single_table (calls_of q t buffer room) t ∙ sym (load_is_calls q t buffer room)
  apart_table t (Depth side k) = refl
  apart_table t (Top side) = refl
  apart_table t (Read report) = refl

  apart_reports : (t : List ℕ) (c : Call) → reports_after q t (apart q t c) ≡ reports_of q t c
  unfolding reports_after
  apart_reports t (Submit message room) = append-nil (submitted q t message room).reports
  apart_reports t (Run room budget) = append-nil (ran q t room budget).reports
  apart_reports t (Load buffer room) = single_reports (calls_of q t buffer room) t ∙ sym (load_tells_calls q t buffer room)
  apart_reports t (Depth side k) = refl
  apart_reports t (Top side) = refl
  apart_reports t (Read report) = refl

  apart_steps : (t : List ℕ) (c : Call) → steps_after q t (apart q t c) ≡ steps_of q t c
  unfolding steps_after
  apart_steps t (Submit message room) = refl
  apart_steps t (Run room budget) = omega arith
  apart_steps t (Load buffer room) = single_steps (calls_of q t buffer room) t
  apart_steps t (Depth side k) = refl
  apart_steps t (Top side) = refl
  apart_steps t (Read report) = refl

  apart_none : (t : List ℕ) (c : Call) → no_load (apart q t c) ≡ true
  unfolding no_load
  apart_none t (Submit message room) = refl
  apart_none t (Run room budget) = refl
  apart_none t (Load buffer room) = single_none (calls_of q t buffer room)
  apart_none t (Depth side k) = refl
  apart_none t (Top side) = refl
  apart_none t (Read report) = refl

  -- ---- a history taken apart

  pub singles_table : (cs : List Call) (t : List ℕ) → table_after q t (singles q t cs) ≡ table_after q t cs
  unfolding table_after singles
  singles_table [] t = refl
  singles_table (c ∷ cs) t =
      after_table (apart q t c) (singles q (table_of q t c) cs) t ∙ rw (apart_table t c) (singles_table cs (table_of q t c))

  pub singles_reports : (cs : List Call) (t : List ℕ) → reports_after q t (singles q t cs) ≡ reports_after q t cs
  unfolding table_after reports_after singles
  singles_reports [] t = refl
  singles_reports (c ∷ cs) t =
      after_reports (apart q t c) (singles q (table_of q t c) cs) t
      ∙ rw (apart_table t c, apart_reports t c, singles_reports cs (table_of q t c))

  pub singles_steps : (cs : List Call) (t : List ℕ) → steps_after q t (singles q t cs) ≡ steps_after q t cs
  unfolding table_after steps_after singles
  singles_steps [] t = refl
  singles_steps (c ∷ cs) t =
      after_steps (apart q t c) (singles q (table_of q t c) cs) t
      ∙ rw (apart_table t c, apart_steps t c, singles_steps cs (table_of q t c))

  -- no load is left in it
  pub singles_none : (cs : List Call) (t : List ℕ) → no_load (singles q t cs) ≡ true
  unfolding no_load singles
  singles_none [] t = refl
  singles_none (c ∷ cs) t = after_none (apart q t c) (singles q (table_of q t c) cs) (apart_none t c) (singles_none cs (table_of q t c))

  -- ---- a load that is gone on with: the calls that do so leave what one load leaves

  module _ (t buffer : List ℕ) (room further again wide : ℕ) where
    abbrev first : List ℕ
    first = (loaded q t buffer room).table

    abbrev rest : List ℕ
    rest = drop (load_place (loaded q t buffer room).answer) buffer

    module _ (g : GoesOn (loaded q t buffer room) (ran q first further enough) (loaded q (ran q first further enough).table rest again) (loaded q t buffer wide)) where
      pub gone_on_table : table_after q t (Load buffer room ∷ Run further enough ∷ Load rest again ∷ []) ≡ table_after q t (Load buffer wide ∷ [])
      unfolding table_after
      gone_on_table = g.table_is

      pub gone_on_reports : reports_after q t (Load buffer room ∷ Run further enough ∷ Load rest again ∷ []) ≡ reports_after q t (Load buffer wide ∷ [])
      unfolding reports_after
      gone_on_reports =
          rw (append-nil (loaded q (ran q first further enough).table rest again).reports, append-nil (loaded q t buffer wide).reports)
          g.reports_are
