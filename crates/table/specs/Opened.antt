-- What opening does (document 01, "The table and its calls", Open and refusal 9; document 02, T-08): the settings it takes, the table it
-- writes, and its answer. The MPIDs and their modes are two lists of numbers, one entry of the one for one of the other. What
-- was in the table before is not looked at. What the market is to trade, bonds or equities, is the call's own. Assumes nothing.
use Rattle.std.specs.Prelude.{Result, Ok, Err, Bool, not, cond, ◌&&◌, List, ℕ, eqb, leb, length, get_or, replicate}
use Rattle.octets.specs.Tests.{all_up_to}
use Rattle.refusals.specs.declared.Refusal.{Refusal}
use Rattle.refusals.specs.declared.Refusal.TheVariants.{BadSetting}
use Rattle.decimal.specs.declared.Instrument.{Instrument}
use Rattle.table.specs.Places.{table_bytes, id_room, code_room, most_mpids}
use Rattle.table.specs.Heading.{put_venue, put_port, put_code, put_kind, put_next, put_mpids, put_modes}
use Rattle.table.specs.Market.{every, is_graphic, is_code_character}

-- 1 to high characters, of which each passes the test
unfoldable pub is_name : (ℕ → Bool) → ℕ → List ℕ → Bool
is_name f high xs = leb 1 (length xs) && leb (length xs) high && every f xs

-- the MPID of entry k is that of no entry before it
unfoldable pub is_new : List ℕ → ℕ → Bool
is_new mpids k = all_up_to (λ j. not (eqb (get_or mpids j 0) (get_or mpids k 0))) k

-- entry k of the lists: an MPID 1 to 999,999 that none before it has, and a mode 1, 2 or 3
unfoldable pub is_given : List ℕ → List ℕ → ℕ → Bool
is_given mpids modes k =
    leb 1 (get_or mpids k 0) && leb (get_or mpids k 0) 999999 && leb 1 (get_or modes k 0) && leb (get_or modes k 0) 3
    && is_new mpids k

-- 1 to 8 MPIDs, each with its mode
unfoldable pub are_given : List ℕ → List ℕ → Bool
are_given mpids modes =
    leb 1 (length mpids) && leb (length mpids) most_mpids && eqb (length modes) (length mpids)
    && all_up_to (is_given mpids modes) (length mpids)

-- venue and port have 1 to 8 characters from 21 to 7E hex, the code 1 to 9 characters such as the market's codes have
unfoldable pub are_names : Instrument → List ℕ → List ℕ → List ℕ → Bool
are_names q venue port code =
    is_name is_graphic id_room venue && is_name is_graphic id_room port && is_name (is_code_character q) code_room code

-- the settings are good; the first number is 1 to 999,999,999
unfoldable pub are_settings : Instrument → List ℕ → List ℕ → List ℕ → ℕ → List ℕ → List ℕ → Bool
are_settings q venue port code first mpids modes =
    are_names q venue port code && leb 1 first && leb first 999999999 && are_given mpids modes

-- a table of zeros with venue, port and code
unfoldable pub named_table : List ℕ → List ℕ → List ℕ → List ℕ
named_table venue port code = put_code (put_port (put_venue (replicate table_bytes 0) venue) port) code

-- the whole table as it is opened: what it trades, the settings and the first number, all else zero
unfoldable pub fresh_table : Instrument → List ℕ → List ℕ → List ℕ → ℕ → List ℕ → List ℕ → List ℕ
fresh_table q venue port code first mpids modes =
    put_modes (put_mpids (put_kind (put_next (named_table venue port code) first) q) mpids) modes

module _ (q : Instrument) (t venue port code : List ℕ) (first : ℕ) (mpids modes : List ℕ) where
  -- opening is taken exactly if the table's length and every setting are right
  unfoldable pub is_opening : Bool
  is_opening = eqb (length t) table_bytes && are_settings q venue port code first mpids modes

  -- the table afterwards: opened, or unchanged
  unfoldable pub opened : List ℕ
  opened = cond is_opening (fresh_table q venue port code first mpids modes) t

  -- what is answered: taken, or refusal 9
  unfoldable pub open_answer : Result (Unit {0}) Refusal
  open_answer = cond is_opening (Ok tt) (Err BadSetting)
