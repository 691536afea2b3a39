-- A history of a market of bonds or of equities: any calls of that market, one after the other, from an accepted Open on; refused ones
-- are among them. What each leaves of the table and which reports it writes is what its contract says (document 01, "The table and its
-- calls"; document 02, T-07 and T-08). Assumes nothing.
use Rattle.std.specs.Prelude.{Bool, true, false, ◌&&◌, List, [], ◌∷◌, ◌++◌, map, ℕ, ◌+◌}
use Rattle.decimal.specs.declared.Instrument.{Instrument}
use Rattle.calls.specs.Submit.{submitted}
use Rattle.calls.specs.Run.{ran, run_steps}
use Rattle.load.specs.Load.{loaded}
use Rattle.load.specs.Singles.{Single, Submits, Runs, calls_of}

-- a call with what is lent or given to it: a message and the length of the report area; the length of the area and a budget of
-- steps; a buffer of messages and the length of the area; a side and a k; a side, of which the best level is asked for; the bytes of one
-- report
pub data Call : Type 0 where
  Submit : (message : List ℕ) (room : ℕ) → Call
  Run : (room budget : ℕ) → Call
  Load : (buffer : List ℕ) (room : ℕ) → Call
  Depth : (side k : ℕ) → Call
  Top : (side : ℕ) → Call
  Read : (report : List ℕ) → Call

-- the table after a call
abbrev pub table_of : Instrument → List ℕ → Call → List ℕ
table_of q t (Submit message room) = (submitted q t message room).table
table_of q t (Run room budget) = (ran q t room budget).table
table_of q t (Load buffer room) = (loaded q t buffer room).table
table_of q t (Depth side k) = t
table_of q t (Top side) = t
table_of q t (Read report) = t

-- the reports that it writes, in turn
abbrev pub reports_of : Instrument → List ℕ → Call → List (List ℕ)
reports_of q t (Submit message room) = (submitted q t message room).reports
reports_of q t (Run room budget) = (ran q t room budget).reports
reports_of q t (Load buffer room) = (loaded q t buffer room).reports
reports_of q t (Depth side k) = []
reports_of q t (Top side) = []
reports_of q t (Read report) = []

-- the table after a history, and all reports in turn
unfoldable pub table_after : Instrument → List ℕ → List Call → List ℕ
table_after q t [] = t
table_after q t (c ∷ cs) = table_after q (table_of q t c) cs

unfoldable pub reports_after : Instrument → List ℕ → List Call → List (List ℕ)
reports_after q t [] = []
reports_after q t (c ∷ cs) = reports_of q t c ++ reports_after q (table_of q t c) cs

-- ---- steps

-- the steps that the single calls of a load take
unfoldable pub steps_in : Instrument → List ℕ → List Single → ℕ
steps_in q t [] = 0
steps_in q t (Submits message room ∷ cs) = steps_in q (submitted q t message room).table cs
steps_in q t (Runs room budget ∷ cs) = run_steps (ran q t room budget).answer + steps_in q (ran q t room budget).table cs

-- the steps that a call takes, and those of a history in all
abbrev pub steps_of : Instrument → List ℕ → Call → ℕ
steps_of q t (Submit message room) = 0
steps_of q t (Run room budget) = run_steps (ran q t room budget).answer
steps_of q t (Load buffer room) = steps_in q t (calls_of q t buffer room)
steps_of q t (Depth side k) = 0
steps_of q t (Top side) = 0
steps_of q t (Read report) = 0

unfoldable pub steps_after : Instrument → List ℕ → List Call → ℕ
steps_after q t [] = 0
steps_after q t (c ∷ cs) = steps_of q t c + steps_after q (table_of q t c) cs

-- a history of which neither Submit nor Load is a part, so that nothing new comes into work
abbrev pub no_submit : List Call → Bool
no_submit [] = true
no_submit (Submit message room ∷ cs) = false
no_submit (Run room budget ∷ cs) = no_submit cs
no_submit (Load buffer room ∷ cs) = false
no_submit (Depth side k ∷ cs) = no_submit cs
no_submit (Top side ∷ cs) = no_submit cs
no_submit (Read report ∷ cs) = no_submit cs

-- ---- loads

-- what a load does with one message, as a call of its own
abbrev pub single : Single → Call
single (Submits message room) = Submit message room
single (Runs room budget) = Run room budget

-- a load as the calls that it stands for; any other call as itself
abbrev pub apart : Instrument → List ℕ → Call → List Call
apart q t (Submit message room) = Submit message room ∷ []
apart q t (Run room budget) = Run room budget ∷ []
apart q t (Load buffer room) = map single (calls_of q t buffer room)
apart q t (Depth side k) = Depth side k ∷ []
apart q t (Top side) = Top side ∷ []
apart q t (Read report) = Read report ∷ []

-- a history with every load taken apart
unfoldable pub singles : Instrument → List ℕ → List Call → List Call
singles q t [] = []
singles q t (c ∷ cs) = apart q t c ++ singles q (table_of q t c) cs

-- a call other than Load, and a history of those alone
abbrev pub is_single : Call → Bool
is_single (Submit message room) = true
is_single (Run room budget) = true
is_single (Load buffer room) = false
is_single (Depth side k) = true
is_single (Top side) = true
is_single (Read report) = true

unfoldable pub no_load : List Call → Bool
no_load [] = true
no_load (c ∷ cs) = is_single c && no_load cs
