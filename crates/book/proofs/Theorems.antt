-- What holds of the program for every input: after each line its market is a market with nothing in work, so that every message
-- is run to its end, and what is printed is the heading and a line for each level.
use mathlib.Core.Path.{◌≡◌}
use mathlib.Core.Bool.{true, cond}
use mathlib.Core.List.{List, [], ◌∷◌, ◌++◌}
use Prim.Native.Nat.{ℕ, ◌≤◌, zero-le}
use native.Mathlib.Omega.{arith}
use lib.Dec.{lit≤}
use lib.ListN.{length}
use Rattle.octets.proofs.Bools.{split}
use Rattle.matching.specs.Matching.{Book, at, faces, count_of, met_by}
use Rattle.matching.proofs.Books.{sum_most}
use Rattle.decimal.specs.declared.Instrument.{Instrument}
use Rattle.table.specs.Heading.{work_of}
use Rattle.table.specs.Orders.{book_of}
use Rattle.table.specs.Market.{is_market_of}
use Rattle.table.proofs.Instruments.{of_market}
use Rattle.table.proofs.Same.{filled_few}
use Rattle.table.proofs.Books.{length_book}
use Rattle.calls.specs.Submit.{submitted}
use Rattle.calls.specs.Run.{ran}
use Rattle.intake.proofs.Theorems.{submit_keeps}
use Rattle.turns.proofs.Theorems.{run_keeps, run_ends}
use Rattle.book.specs.Sheet.{heading, both_sides, sheet_of}
use Rattle.book.specs.Book.{message_of, area_bytes, steps_allowed, line_taken, lines_of, lines_taken, rehearsal, book_printed}
use Rattle.book.proofs.Programs.{rehearsal_market, rehearsal_idle}

-- an order meets at most as many as there are
met_few : (b : Book) (w : ℕ) → met_by b w ≤ length b
unfolding met_by count_of
met_few b w =
    omega (
      arith,
      sum_most (λ o. cond (faces (at b w) o) 1 0) b (length b) 1
          (λ k p q. split (faces (at b w) (at b k)) (λ t. rw t (lit≤ tt)) (λ t. rw t zero-le)),
    )

-- Run with so much room and so many steps ends the work
ends : (q : Instrument) (t : List ℕ) → is_market_of q t ≡ true → work_of (ran q t area_bytes steps_allowed).table ≡ 0
unfolding ran
ends q t m =
    let few : met_by (book_of t) (work_of t) ≤ 255 = omega (arith, met_few (book_of t) (work_of t), length_book t, filled_few t) in
    rw m (run_ends steps_allowed t area_bytes (of_market q t m) (omega (arith, few)) (omega (arith, few))).ended

-- ---- a line

module _ (q : Instrument) (t line : List ℕ) (m : is_market_of q t ≡ true) where
  -- it leaves a market that trades the same
  pub line_keeps : is_market_of q (line_taken q t line) ≡ true
  unfolding line_taken
  line_keeps = run_keeps q (submitted q t (message_of line) area_bytes).table area_bytes steps_allowed (submit_keeps q t (message_of line) area_bytes m)

  -- and its message is run to its end
  pub line_ends : work_of (line_taken q t line) ≡ 0
  unfolding line_taken
  line_ends = ends q (submitted q t (message_of line) area_bytes).table (submit_keeps q t (message_of line) area_bytes m)

-- ---- all lines

pub lines_keep : (q : Instrument) (ls : List (List ℕ)) (t : List ℕ) → is_market_of q t ≡ true → is_market_of q (lines_taken q t ls) ≡ true
unfolding lines_taken
lines_keep q [] t m = m
lines_keep q (l ∷ ls) t m = lines_keep q ls (line_taken q t l) (line_keeps q t l m)

pub lines_end : (q : Instrument) (ls : List (List ℕ)) (t : List ℕ) → is_market_of q t ≡ true → work_of t ≡ 0 → work_of (lines_taken q t ls) ≡ 0
unfolding lines_taken
lines_end q [] t m w = w
lines_end q (l ∷ ls) t m w = lines_end q ls (line_taken q t l) (line_keeps q t l m) (line_ends q t l m)

-- ---- the program

-- whatever it reads, it prints the levels of the book that is left
pub prints_levels : (q : Instrument) (input : List ℕ) → book_printed q input ≡ heading q ++ both_sides q (book_of (lines_taken q (rehearsal q) (lines_of input)))
unfolding book_printed sheet_of
prints_levels q input =
    rw (lines_keep q (lines_of input) (rehearsal q) (rehearsal_market q), lines_end q (lines_of input) (rehearsal q) (rehearsal_market q) (rehearsal_idle q))
