-- What the inner functions of Load ask for and leave. Nothing here need be believed: `load` cites `loaded` alone.
use Rattle.std.specs.Prelude.{◌≡◌, true, cond, not, List, ℕ, eqb, ltb, length, Option, Some, None, Result, Ok, Err}
use Rattle.octets.specs.Written.{Wrote}
use Rattle.decimal.specs.declared.Instrument.{Instrument}
use Rattle.table.specs.Places.{table_bytes}
use Rattle.table.specs.Heading.{next_of, work_of}
use Rattle.table.specs.Market.{is_market_of}
use Rattle.calls.specs.Told.{joined, area_after}
use Rattle.load.specs.declared.Stop.{Stop}
use Rattle.load.specs.declared.Stop.TheVariants as stop
use Rattle.load.specs.declared.go.Halt.{Halt}
use Rattle.load.specs.Buffer.{lying_in, starts_message, length_said}
use Rattle.load.specs.Load.{taken, halt, loads}

-- the length of the message that s starts with, if it can be read
unfoldable pub length_found : List ℕ → Option ℕ
length_found s = cond (starts_message s) (Some (length_said s)) None

-- a message was taken: its reports stand at the start of the area
pub record Took (q : Instrument) (t message area : List ℕ) (n : ℕ) (after written : List ℕ) : Type 0 where
  pub table : after ≡ (taken q t message (length area)).table
  pub bytes_in : Wrote area 0 (joined (taken q t message (length area)).reports) n written

-- a market of bonds or of equities with nothing in work
pub record Idle (q : Instrument) (t : List ℕ) : Type 0 where
  pub market : is_market_of q t ≡ true
  pub idle : work_of t ≡ 0
  pub long : length t ≡ table_bytes

-- the length of the message that s starts with and that can be taken with so many bytes free, or why none can
unfoldable pub next_for : List ℕ → List ℕ → ℕ → Result ℕ Stop
next_for t s free =
    cond (eqb (length s) 0) (Err stop.Done)
    (cond (ltb free 1024) (Err stop.Full)
    (cond (not (starts_message s)) (Err stop.Unread)
    (cond (ltb 999998976 (next_of t)) (Err stop.Spent)
    (Ok (length_said s)))))

-- all messages of the buffer were taken that can be
pub record Went (q : Instrument) (t buffer area : List ℕ) (r : Halt) (after written : List ℕ) : Type 0 where
  pub answer : r ≡ halt (loads q t (lying_in buffer) (length area))
  pub table : after ≡ (loads q t (lying_in buffer) (length area)).table
  pub bytes_in : written ≡ area_after area (loads q t (lying_in buffer) (length area)).reports
