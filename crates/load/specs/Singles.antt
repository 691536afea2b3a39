-- The calls that a person would make instead of one Load: Submit for each message, and Run while something is in work, each with the rest of
-- the report area that those before it have left. Assumes nothing.
use Rattle.std.specs.Prelude.{cond, List, [], ◌∷◌, ◌++◌, ℕ, ◌-◌, eqb, ltb, length}
use Rattle.decimal.specs.declared.Instrument.{Instrument}
use Rattle.table.specs.Heading.{work_of}
use Rattle.calls.specs.Told.{joined, room_asked}
use Rattle.calls.specs.Submit.{submitted}
use Rattle.calls.specs.Run.{ran}
use Rattle.load.specs.Buffer.{Lying, End, Unreadable, Then, lying_in}
use Rattle.load.specs.Load.{taken, refuses, loaded}

-- a call with what is lent to it: a message and the length of the report area; that length and a budget of steps
pub data Single : Type 0 where
  Submits : (message : List ℕ) (room : ℕ) → Single
  Runs : (room budget : ℕ) → Single

-- the table after a call, and the reports that it writes
abbrev pub table_of : Instrument → List ℕ → Single → List ℕ
table_of q t (Submits message room) = (submitted q t message room).table
table_of q t (Runs room budget) = (ran q t room budget).table

abbrev pub reports_of : Instrument → List ℕ → Single → List (List ℕ)
reports_of q t (Submits message room) = (submitted q t message room).reports
reports_of q t (Runs room budget) = (ran q t room budget).reports

-- the same of calls one after another
unfoldable pub table_after : Instrument → List ℕ → List Single → List ℕ
table_after q t [] = t
table_after q t (c ∷ cs) = table_after q (table_of q t c) cs

unfoldable pub reports_after : Instrument → List ℕ → List Single → List (List ℕ)
reports_after q t [] = []
reports_after q t (c ∷ cs) = reports_of q t c ++ reports_after q (table_of q t c) cs

-- the messages that are submitted
unfoldable pub messages_of : List Single → List (List ℕ)
messages_of [] = []
messages_of (Submits message room ∷ cs) = message ∷ messages_of cs
messages_of (Runs room budget ∷ cs) = messages_of cs

-- the calls of one message: Run only if it puts an order in work
unfoldable pub calls_for : Instrument → List ℕ → List ℕ → ℕ → List Single
calls_for q t message room =
    let s = submitted q t message room in
    Submits message room ∷ cond (eqb (work_of s.table) 0) [] (Runs (room - length (joined s.reports)) 256 ∷ [])

-- those of the messages of a buffer, as long as there is room and numbers are left and nothing is in work
unfoldable pub calls_in : Instrument → List ℕ → Lying → ℕ → List Single
calls_in q t End room = []
calls_in q t Unreadable room = []
calls_in q t (Then message rest) room =
    let k = taken q t message room in
    cond (ltb room room_asked) []
    (cond (eqb k.number 4) []
    (calls_for q t message room
    ++ cond (eqb (work_of k.table) 0) (calls_in q k.table rest (room - length (joined k.reports))) []))

-- those of a whole call, none where it is refused
unfoldable pub calls_of : Instrument → List ℕ → List ℕ → ℕ → List Single
calls_of q t buffer room = cond (refuses (loaded q t buffer room).answer) [] (calls_in q t (lying_in buffer) room)
