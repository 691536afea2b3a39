-- What the program `book` prints for the bytes of its input (document 01, "Rehearsed books"), where its market trades bonds, and where it
-- trades equities (document 02, T-08). A line ends with LF; a last line
-- without one is a line too, and any other byte is a byte of its message. Each line is one message, with `|` for SOH; one that is
-- refused prints nothing, and the next is read. Assumes nothing.
use Rattle.std.specs.Prelude.{cond, List, [], ◌∷◌, ℕ, eqb}
use Rattle.octets.specs.Characters.{byte, bytes, soh}
use Rattle.decimal.specs.declared.Instrument.{Instrument}
use Rattle.decimal.specs.declared.Instrument.TheVariants.{Bonds, Equities}
use Rattle.table.specs.Opened.{fresh_table}
use Rattle.calls.specs.Submit.{submitted}
use Rattle.calls.specs.Run.{ran}
use Rattle.book.specs.Sheet.{line_end, sheet_of}

-- ---- one line

-- the byte that a character of a line stands for: SOH for `|`
abbrev pub byte_for : ℕ → ℕ
byte_for c = cond (eqb c (byte "|")) soh c

unfoldable pub message_of : List ℕ → List ℕ
message_of [] = []
message_of (c ∷ s) = byte_for c ∷ message_of s

-- the report area that is lent to each call, and the budget of Run: enough for whatever a message puts in work
abbrev pub area_bytes : ℕ
area_bytes = 262144

abbrev pub steps_allowed : ℕ
steps_allowed = 256

-- the table after a line: its message is submitted, and what it put in work is run to its end
unfoldable pub line_taken : Instrument → List ℕ → List ℕ → List ℕ
line_taken q t line = (ran q (submitted q t (message_of line) area_bytes).table area_bytes steps_allowed).table

-- ---- all lines

-- a character before lines: the first character of the first of them
abbrev pub before : ℕ → List (List ℕ) → List (List ℕ)
before c [] = (c ∷ []) ∷ []
before c (l ∷ ls) = (c ∷ l) ∷ ls

-- the lines of the input
unfoldable pub lines_of : List ℕ → List (List ℕ)
lines_of [] = []
lines_of (c ∷ s) = cond (eqb c line_end) ([] ∷ lines_of s) (before c (lines_of s))

-- the table after lines, one after the other
unfoldable pub lines_taken : Instrument → List ℕ → List (List ℕ) → List ℕ
lines_taken q t [] = t
lines_taken q t (l ∷ ls) = lines_taken q (line_taken q t l) ls

-- ---- the program

-- the code of its bond, or the symbol of its share
abbrev pub traded : Instrument → List ℕ
traded Bonds = bytes "350"
traded Equities = bytes "7203"

-- its market: venue V, port P, first number 1, MPIDs 10 to 14, all of mode 1
unfoldable pub rehearsal : Instrument → List ℕ
rehearsal q = fresh_table q (bytes "V") (bytes "P") (traded q) 1 (10 ∷ 11 ∷ 12 ∷ 13 ∷ 14 ∷ []) (1 ∷ 1 ∷ 1 ∷ 1 ∷ 1 ∷ [])

unfoldable pub book_printed : Instrument → List ℕ → List ℕ
book_printed q input = sheet_of q (lines_taken q (rehearsal q) (lines_of input))
