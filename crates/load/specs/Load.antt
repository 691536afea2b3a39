-- What Load answers and leaves (document 02, T-07): each message of a buffer is submitted and run to its end, one after another, until
-- the buffer ends, there is no room, a length cannot be read, or the numbers are spent. For any bytes of a table and of a buffer, and any
-- length of the report area. Submit and Run are what their own definitions say. Assumes nothing.
use Rattle.std.specs.Prelude.{Bool, cond, not, List, [], ◌++◌, ℕ, suc, ◌+◌, ◌-◌, eqb, ltb, length, Result, Ok, Err, is_err}
use Rattle.refusals.specs.declared.Refusal.{Refusal}
use Rattle.refusals.specs.declared.Refusal.TheVariants.{NoRoom, NoMarket, InWork}
use Rattle.refusals.specs.Refusals.{number_of}
use Rattle.decimal.specs.declared.Instrument.{Instrument}
use Rattle.table.specs.Heading.{work_of}
use Rattle.table.specs.Market.{is_market_of}
use Rattle.calls.specs.Told.{joined, room_asked}
use Rattle.calls.specs.Submit.{submitted, submit_number}
use Rattle.calls.specs.Run.{ran}
use Rattle.load.specs.declared.Stop.{Stop}
use Rattle.load.specs.declared.Stop.TheVariants as stop
use Rattle.load.specs.declared.go.Halt.{Halt}
use Rattle.load.specs.declared.LoadProgress.{LoadProgress}
use Rattle.load.specs.Buffer.{Lying, End, Unreadable, Then, lying_in}

-- ---- one message

-- so many steps end every work: an order meets 255 others at most
abbrev pub enough : ℕ
enough = 256

-- what a message leaves: Submit's number, the table, and all its reports in turn
pub record Taken : Type 0 where
  pub number : ℕ
  pub table : List ℕ
  pub reports : List (List ℕ)

-- a message is submitted with so much room and, if that puts an order in work, run to its end with the room that is left
unfoldable pub taken : Instrument → List ℕ → List ℕ → ℕ → Taken
taken q t message room =
    let s = submitted q t message room in
    let r = ran q s.table (room - length (joined s.reports)) enough in
    cond (eqb (work_of s.table) 0)
    (record { number = submit_number s.answer; table = s.table; reports = s.reports })
    (record { number = submit_number s.answer; table = r.table; reports = s.reports ++ r.reports })

-- ---- one after another

-- what messages leave: why no more are taken, the place of the first one not submitted, how many were finished, the table, the reports
pub record Loads : Type 0 where
  pub stop : Stop
  pub place : ℕ
  pub finished : ℕ
  pub table : List ℕ
  pub reports : List (List ℕ)

-- no more are taken
abbrev pub halted : Stop → List ℕ → Loads
halted why t = record { stop = why; place = 0; finished = 0; table = t; reports = [] }

-- a message that is still in work: it is submitted, and not finished
abbrev pub broken : List ℕ → Taken → Loads
broken message k = record { stop = stop.Full; place = length message; finished = 0; table = k.table; reports = k.reports }

-- a message that is finished, before others
abbrev pub one_more : List ℕ → List (List ℕ) → Loads → Loads
one_more message rs l =
    record { stop = l.stop; place = length message + l.place; finished = suc l.finished; table = l.table; reports = rs ++ l.reports }

-- the messages that lie in a buffer, with so much room: at each it is asked whether it has room, whether its length can be read, and
-- whether Submit would refuse it because the numbers are spent
unfoldable pub loads : Instrument → List ℕ → Lying → ℕ → Loads
loads q t End room = halted stop.Done t
loads q t Unreadable room = cond (ltb room room_asked) (halted stop.Full t) (halted stop.Unread t)
loads q t (Then message rest) room =
    let k = taken q t message room in
    cond (ltb room room_asked) (halted stop.Full t)
    (cond (eqb k.number 4) (halted stop.Spent t)
    (cond (eqb (work_of k.table) 0)
    (one_more message k.reports (loads q k.table rest (room - length (joined k.reports))))
    (broken message k)))

-- ---- the call

-- what Load leaves
pub record Loaded : Type 0 where
  pub answer : Result LoadProgress Refusal
  pub table : List ℕ
  pub reports : List (List ℕ)

abbrev pub unmoved : List ℕ → Result LoadProgress Refusal → Loaded
unmoved t a = record { answer = a; table = t; reports = [] }

-- how far that is
abbrev pub halt : Loads → Halt
halt l = record { stop = l.stop; place = l.place; finished = l.finished; bytes = length (joined l.reports) }

abbrev pub done : Loads → Loaded
done l = record { answer = Ok (record { halt = halt l; reports = length l.reports }); table = l.table; reports = l.reports }

-- the call for bonds takes a market of bonds, and that for equities one of equities
unfoldable pub loaded : Instrument → List ℕ → List ℕ → ℕ → Loaded
loaded q t buffer room =
    cond (ltb room room_asked) (unmoved t (Err NoRoom))
    (cond (not (is_market_of q t)) (unmoved t (Err NoMarket))
    (cond (not (eqb (work_of t) 0)) (unmoved t (Err InWork))
    (done (loads q t (lying_in buffer) room))))

-- ---- the paper's numbers

abbrev pub stop_number : Stop → ℕ
stop_number stop.Done = 0
stop_number stop.Full = 1
stop_number stop.Spent = 4
stop_number stop.Unread = 5

abbrev pub load_number : Result LoadProgress Refusal → ℕ
load_number (Ok l) = stop_number l.halt.stop
load_number (Err r) = number_of r

-- the place of the first message not submitted, how many were finished, bytes and reports, each 0 where the whole call is refused
abbrev pub load_place : Result LoadProgress Refusal → ℕ
load_place (Ok l) = l.halt.place
load_place (Err r) = 0

abbrev pub load_finished : Result LoadProgress Refusal → ℕ
load_finished (Ok l) = l.halt.finished
load_finished (Err r) = 0

abbrev pub load_bytes : Result LoadProgress Refusal → ℕ
load_bytes (Ok l) = l.halt.bytes
load_bytes (Err r) = 0

abbrev pub load_reports : Result LoadProgress Refusal → ℕ
load_reports (Ok l) = l.reports
load_reports (Err r) = 0

-- the whole call is refused
abbrev pub refuses : Result LoadProgress Refusal → Bool
refuses answer = is_err answer
