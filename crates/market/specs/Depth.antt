-- What Depth answers (document 01, "The table and its calls", Depth and refusals 2, 3 and 10; document 02, T-08): one answer for any
-- bytes of a table, any side and any k, and the paper's number and values for each answer. It changes nothing. Assumes nothing.
use Rattle.std.specs.Prelude.{Bool, cond, not, ◌||◌, List, ℕ, eqb, Option, Some, None, Result, Ok, Err}
use Rattle.decimal.specs.declared.Instrument.{Instrument}
use Rattle.refusals.specs.declared.Refusal.{Refusal}
use Rattle.refusals.specs.declared.Refusal.TheVariants.{NoMarket, InWork, BadSide}
use Rattle.refusals.specs.Refusals.{answer_number}
use Rattle.matching.specs.declared.Level.{Level}
use Rattle.matching.specs.Depth.{depth}
use Rattle.table.specs.Heading.{work_of}
use Rattle.table.specs.Orders.{book_of}
use Rattle.table.specs.Market.{is_market_of}

-- a refusal, or the level that there is or that there is none
abbrev pub DepthAnswer : Type 0
DepthAnswer = Result (Option Level) Refusal

-- side 1 the buys, side 2 all the sells, and no other
abbrev pub is_side : ℕ → Bool
is_side side = eqb side 1 || eqb side 2

-- refused if the table is no market of what the call is for, an order is in work, or the side is none; else the k-th level from the
-- best, or that there is none
unfoldable pub depth_answer : Instrument → List ℕ → ℕ → ℕ → DepthAnswer
depth_answer q t side k =
    cond (not (is_market_of q t)) (Err NoMarket)
    (cond (not (eqb (work_of t) 0)) (Err InWork)
    (cond (not (is_side side)) (Err BadSide)
    (Ok (depth (book_of t) side k))))

-- the paper's number
abbrev pub depth_number : DepthAnswer → ℕ
depth_number answer = answer_number answer

-- its values: 1 if there is such a level, else 0; the level, its total open quantity and its number of orders, each 0 where
-- there is none
abbrev pub has_level : Option Level → ℕ
has_level (Some l) = 1
has_level None = 0

abbrev pub level_is : Option Level → ℕ
level_is (Some l) = l.level
level_is None = 0
