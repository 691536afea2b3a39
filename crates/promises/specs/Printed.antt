-- The worked examples of source document 004 as they are printed (document 02, T-08): what is offered, the order that enters, and line by
-- line what is open of it before a match step and what the step does. Run goes through the lines if it does so one step a call, and all
-- at once. Prices are given in tenths; A is MPID 10, and B, C and D are 11, 12 and 13. Assumes nothing.
use Rattle.std.specs.Prelude.{◌≡◌, List, [], ◌∷◌, ◌++◌, map, ℕ, ◌≤◌, length}
use Rattle.decimal.specs.declared.Instrument.{Instrument}
use Rattle.matching.specs.declared.Event.{Event}
use Rattle.matching.specs.declared.Event.TheVariants.{Canceled, Decremented}
use Rattle.matching.specs.Matching.{Book, at, open_of}
use Rattle.matching.specs.Rehearsed.{sell, buy, trade}
use Rattle.table.specs.Heading.{work_of}
use Rattle.table.specs.Orders.{order_id_at, book_of}
use Rattle.report.specs.Reports.{read_of}
use Rattle.calls.specs.Run.{ran}
use Rattle.promises.specs.Prices.{price}
use Rattle.promises.specs.Shown.{ReportsOf, ShowsOn}

-- ---- the book: sells of 100 at 100 by B, and at 100.1 of 200 by C, 200 by A and 500 by D; and A's buy of 1,200 at 100.1, number 5
abbrev pub printed_book : Book
printed_book =
    sell 100 (price 1000) 1 11 ∷ sell 200 (price 1001) 2 12 ∷ sell 200 (price 1001) 3 10 ∷ sell 500 (price 1001) 4 13
    ∷ buy 1200 (price 1001) 5 10
    ∷ []

-- ---- lines

-- the balance of the incoming order before a match step, and what the step does
pub record Line : Type 0 where
  pub balance : ℕ
  pub action : List Event

abbrev pub line : ℕ → List Event → Line
line balance action = record { balance = balance; action = action }

-- all that is done
abbrev pub actions : List Line → List Event
actions [] = []
actions (l ∷ ls) = l.action ++ actions ls

-- Cancel Newest: 900 canceled back to the owner of the buy, of which nothing is left
abbrev pub cancel_newest : List Line
cancel_newest =
    line 1200 (trade 1 5 100 (price 1000) []) ∷ line 1100 (trade 2 5 200 (price 1001) []) ∷ line 900 (Canceled 5 900 ∷ []) ∷ line 0 [] ∷ []

-- Cancel Oldest: 200 canceled back to the owner of the sell; the last 400 are posted
abbrev pub cancel_oldest : List Line
cancel_oldest =
    line 1200 (trade 1 5 100 (price 1000) []) ∷ line 1100 (trade 2 5 200 (price 1001) []) ∷ line 900 (Canceled 3 200 ∷ [])
    ∷ line 900 (trade 4 5 500 (price 1001) [])
    ∷ line 400 []
    ∷ []

-- Decrement: 200 canceled back to the owner of the sell, and the buy decremented by 200; the last 200 are posted
abbrev pub decrement : List Line
decrement =
    line 1200 (trade 1 5 100 (price 1000) []) ∷ line 1100 (trade 2 5 200 (price 1001) []) ∷ line 900 (Canceled 3 200 ∷ Decremented 5 200 ∷ [])
    ∷ line 700 (trade 4 5 500 (price 1001) [])
    ∷ line 200 []
    ∷ []

-- ---- what is shown of order w on a table

-- Run with a budget of one step and room for it, again and again: before each, so much of w is open, and its reports are of what the line
-- does; behind the last line nothing is in work, and os are open
abbrev pub StepsAs : Instrument → ℕ → List ℕ → List Line → List ℕ → Type 0
StepsAs q w t [] os = (work_of t ≡ 0) × (map open_of (book_of t) ≡ os)
StepsAs q w t (l ∷ ls) os =
    (open_of (at (book_of t) w) ≡ l.balance)
    × ((room : ℕ) → 1024 ≤ room → ReportsOf (order_id_at t) (map (read_of q) (ran q t room 1).reports) l.action × StepsAs q w (ran q t room 1).table ls os)

-- the same, and Run with a budget of as many steps as there are lines, or more
pub record PrintsOn (q : Instrument) (t : List ℕ) (w : ℕ) (ls : List Line) (os : List ℕ) : Type 0 where
  pub step_by_step : StepsAs q w t ls os
  pub at_once : ShowsOn q t (actions ls) os (length ls)
