-- The heading of a table by name: the settings, what it trades, the next report number, the order in work, the 52 of its message and
-- whether its minimum is decided (document 01, "The table and its calls"; document 02, T-05 and T-08). Reading any table gives
-- something; writing changes the named bytes alone. Assumes nothing: whether what is read makes sense is said in Market.
use Rattle.std.specs.Prelude.{Bool, cond, List, [], ◌∷◌, ◌++◌, ℕ, ◌+◌, ◌*◌, eqb, ltb, get_or}
use Rattle.octets.specs.Octets.{le_at, bytes_of, put, text_at, text_bytes, put_text}
use Rattle.octets.specs.Tests.{first_from}
use Rattle.decimal.specs.declared.Instrument.{Instrument}
use Rattle.decimal.specs.declared.Instrument.TheVariants.{Bonds, Equities}
use Rattle.table.specs.Places.{venue_byte, port_byte, id_room, code_byte, code_room, next_byte, work_byte, stamp_byte, stamp_room, kind_byte, mpids_byte, modes_byte, most_mpids, decided_byte}

-- ---- reading

-- the venue id, the port id, and the code of the bond or the symbol of the share
abbrev pub venue_of : List ℕ → List ℕ
venue_of t = text_at t venue_byte

abbrev pub port_of : List ℕ → List ℕ
port_of t = text_at t port_byte

abbrev pub code_of : List ℕ → List ℕ
code_of t = text_at t code_byte

-- the next report number
abbrev pub next_of : List ℕ → ℕ
next_of t = le_at 4 t next_byte

-- the order in work, 0 for none, and the 52 of its message
abbrev pub work_of : List ℕ → ℕ
work_of t = get_or t work_byte 0

abbrev pub stamp_of : List ℕ → List ℕ
stamp_of t = text_at t stamp_byte

-- what the market trades: bonds are noted as 0, equities as 1
abbrev pub kind_number : Instrument → ℕ
kind_number Bonds = 0
kind_number Equities = 1

unfoldable pub instrument_of : List ℕ → Instrument
instrument_of t = cond (eqb (get_or t kind_byte 0) 0) Bonds Equities

-- the decision on its minimum: 0, or 1 once it is made
abbrev pub decided_of : List ℕ → ℕ
decided_of t = get_or t decided_byte 0

-- entry k of the list of MPIDs, from 0: the MPID and its mode
abbrev pub mpid_at : List ℕ → ℕ → ℕ
mpid_at t k = le_at 4 t (mpids_byte + 4 * k)

abbrev pub mode_at : List ℕ → ℕ → ℕ
mode_at t k = get_or t (modes_byte + k) 0

-- the number of entries: those before the first MPID 0
unfoldable pub entries : List ℕ → ℕ
entries t = first_from (λ k. eqb (mpid_at t k) 0) 0 most_mpids

-- the entry that has MPID m; the number of entries if none has
unfoldable pub entry_of : List ℕ → ℕ → ℕ
entry_of t m = first_from (λ k. eqb (mpid_at t k) m) 0 (entries t)

-- MPID m is listed
unfoldable pub is_listed : List ℕ → ℕ → Bool
is_listed t m = ltb (entry_of t m) (entries t)

-- the mode of MPID m: 1 Cancel Newest, 2 Cancel Oldest, 3 Decrement; 0 if it is not listed
unfoldable pub mode_of : List ℕ → ℕ → ℕ
mode_of t m = cond (is_listed t m) (mode_at t (entry_of t m)) 0

-- ---- writing

-- the settings
abbrev pub put_venue : List ℕ → List ℕ → List ℕ
put_venue t xs = put_text id_room t venue_byte xs

abbrev pub put_port : List ℕ → List ℕ → List ℕ
put_port t xs = put_text id_room t port_byte xs

abbrev pub put_code : List ℕ → List ℕ → List ℕ
put_code t xs = put_text code_room t code_byte xs

abbrev pub put_kind : List ℕ → Instrument → List ℕ
put_kind t q = put t kind_byte (kind_number q ∷ [])

-- the bytes of a list of MPIDs
unfoldable pub mpid_bytes : List ℕ → List ℕ
mpid_bytes [] = []
mpid_bytes (m ∷ ms) = bytes_of 4 m ++ mpid_bytes ms

abbrev pub put_mpids : List ℕ → List ℕ → List ℕ
put_mpids t ms = put t mpids_byte (mpid_bytes ms)

abbrev pub put_modes : List ℕ → List ℕ → List ℕ
put_modes t ds = put t modes_byte ds

-- the next report number
abbrev pub put_next : List ℕ → ℕ → List ℕ
put_next t n = put t next_byte (bytes_of 4 n)

-- order w in work with the 52 of its message
abbrev pub put_work : List ℕ → ℕ → List ℕ → List ℕ
put_work t w stamp = put t work_byte (w ∷ text_bytes stamp_room stamp)

-- the decision on its minimum
abbrev pub put_decided : List ℕ → ℕ → List ℕ
put_decided t d = put t decided_byte (d ∷ [])

-- nothing in work, and nothing decided
abbrev pub end_work : List ℕ → List ℕ
end_work t = put_decided (put_work t 0 []) 0
