-- Histories of markets that are kept overnight (document 02, T-12). What counts is one branch of a tree: a market is opened, calls follow
-- one after the other, and whenever it was written out it may be read back and go on from there, in this table or in another, as often
-- as one likes. Its history is then the one up to the writing, with its reports; calls between the writing and the reading are no part
-- of it. Writing changes no table, so it is no step of a history. Assumes nothing.
use Rattle.std.specs.Prelude.{◌≡◌, true, List, [], ◌++◌, ℕ, Ok}
use Rattle.decimal.specs.declared.Instrument.{Instrument}
use Rattle.table.specs.Opened.{is_opening, opened}
use Rattle.image.specs.Answers.{saved_answer, image_after, restored_answer, table_after as table_read}
use Rattle.promises.specs.History.{Call, table_of, reports_of, table_after, reports_after}

-- a market opened with these settings: a table that it may come to have, and all reports of its history in turn
pub data Lived (q : Instrument) (before venue port code : List ℕ) (first : ℕ) (mpids modes : List ℕ) : List ℕ → List (List ℕ) → Type 0 where
  -- an accepted Open, which writes no report
  opens : is_opening q before venue port code first mpids modes ≡ true
      → Lived q before venue port code first mpids modes (opened q before venue port code first mpids modes) []
  -- any call, refused or not
  calls : (t : List ℕ) (reports : List (List ℕ)) (c : Call) → Lived q before venue port code first mpids modes t reports
      → Lived q before venue port code first mpids modes (table_of q t c) (reports ++ reports_of q t c)
  -- the image that it wrote, which nobody changed, read into the table u of any market or of none
  wakes : (t : List ℕ) (reports : List (List ℕ)) (image u : List ℕ) → Lived q before venue port code first mpids modes t reports
      → saved_answer q t image ≡ Ok tt → restored_answer q u (image_after q t image) ≡ Ok tt
      → Lived q before venue port code first mpids modes (table_read q u (image_after q t image)) reports

-- a table and reports that an accepted Open and calls in turn come to, with nothing read back
pub record Called (q : Instrument) (before venue port code : List ℕ) (first : ℕ) (mpids modes t : List ℕ) (reports : List (List ℕ)) : Type 0 where
  pub taken : is_opening q before venue port code first mpids modes ≡ true
  pub history : List Call
  pub is_table : t ≡ table_after q (opened q before venue port code first mpids modes) history
  pub are_reports : reports ≡ reports_after q (opened q before venue port code first mpids modes) history
