-- What the functions that read the input leave while a line is not ended: the table so far, and the start of that line in a lent
-- buffer. A line longer than any message is kept only so far that it is seen to be. Assumes nothing.
use Rattle.std.specs.Prelude.{◌≡◌, cond, List, [], ◌∷◌, ◌++◌, ℕ, ◌≤◌, eqb, length, take}
use Rattle.decimal.specs.declared.Instrument.{Instrument}
use Rattle.book.specs.Sheet.{line_end}
use Rattle.book.specs.Book.{line_taken, book_printed}
use Rattle.octets.specs.Written.{Wrote}

-- the table in the end, where s is still to be read and p has been read of a line that is not ended
unfoldable pub read_on : Instrument → List ℕ → List ℕ → List ℕ → List ℕ
read_on q t p [] = cond (eqb (length p) 0) t (line_taken q t p)
read_on q t p (c ∷ s) = cond (eqb c line_end) (read_on q (line_taken q t p) [] s) (read_on q t (p ++ (c ∷ [])) s)

-- one byte more than a message may have
abbrev pub line_bytes : ℕ
line_bytes = 1025

-- the buffer of a line, of which so many bytes are held
pub record Held (line : List ℕ) (held : ℕ) : Type 0 where
  pub long : length line ≡ line_bytes
  pub few : held ≤ line_bytes

-- after the bytes s were read, whatever comes behind them
pub record Onward (q : Instrument) (t line : List ℕ) (held : ℕ) (s t₂ line₂ : List ℕ) (held₂ : ℕ) : Type 0 where
  pub buffer : Held line₂ held₂
  pub same : (u : List ℕ) → read_on q t (take held line) (s ++ u) ≡ read_on q t₂ (take held₂ line₂) u

-- after some input was read; no contract says which bytes a read gives, so it is known that there is such an input and no more
pub record Came (q : Instrument) (t line : List ℕ) (held : ℕ) (t₂ line₂ : List ℕ) (held₂ : ℕ) : Type 0 where
  pub input : List ℕ
  pub onward : Onward q t line held input t₂ line₂ held₂

-- the n bytes at the start of out are what the program prints for the input that it read
pub record Printed (q : Instrument) (out : List ℕ) (n : ℕ) (after : List ℕ) : Type 0 where
  pub input : List ℕ
  pub wrote : Wrote out 0 (book_printed q input) n after
  pub fits : n ≤ length after
  pub front : n ≡ length (take n after)
