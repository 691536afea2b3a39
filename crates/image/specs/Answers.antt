-- What writing and reading answer and what they leave (document 02, T-12). Of several refusals the first one counts, and a refusal changes
-- nothing. Assumes nothing.
use Rattle.std.specs.Prelude.{Bool, cond, not, ◌||◌, List, ℕ, eqb, ltb, length, Result, Ok, Err}
use Rattle.decimal.specs.declared.Instrument.{Instrument}
use Rattle.refusals.specs.declared.Refusal.{Refusal}
use Rattle.refusals.specs.declared.Refusal.TheVariants.{NoMarket, BadLength, BadBlock}
use Rattle.refusals.specs.Refusals.{answer_number}
use Rattle.table.specs.Places.{table_bytes}
use Rattle.table.specs.Market.{is_market_of}
use Rattle.image.specs.Image.{image_bytes, image_of, first_bad, table_in}

-- image or table is not as long as it must be
unfoldable pub is_wrong_length : List ℕ → List ℕ → Bool
is_wrong_length t image = not (eqb (length image) image_bytes) || not (eqb (length t) table_bytes)

-- ---- writing the table t into the bytes image

unfoldable pub saved_answer : Instrument → List ℕ → List ℕ → Result (Unit {0}) Refusal
saved_answer q t image =
    cond (is_wrong_length t image) (Err BadLength) (cond (not (is_market_of q t)) (Err NoMarket) (Ok tt))

-- the paper's number: 0 where nothing is refused
abbrev pub save_number : Result (Unit {0}) Refusal → ℕ
save_number answer = answer_number answer

-- the bytes of the image afterwards
unfoldable pub image_after : Instrument → List ℕ → List ℕ → List ℕ
image_after q t image = cond (eqb (save_number (saved_answer q t image)) 0) (image_of t) image

-- ---- reading the table t from the bytes image

unfoldable pub restored_answer : Instrument → List ℕ → List ℕ → Result (Unit {0}) Refusal
restored_answer q t image =
    cond (is_wrong_length t image) (Err BadLength)
    (cond (ltb (first_bad image) 65) (Err (BadBlock (first_bad image)))
    (cond (not (is_market_of q (table_in image))) (Err NoMarket) (Ok tt)))

-- the paper's number: 0 where nothing is refused
abbrev pub restore_number : Result (Unit {0}) Refusal → ℕ
restore_number answer = answer_number answer

-- the bytes of the table afterwards
unfoldable pub table_after : Instrument → List ℕ → List ℕ → List ℕ
table_after q t image = cond (eqb (restore_number (restored_answer q t image)) 0) (table_in image) t
