-- What is said of the steps that Run takes: that some steps and then others are as many at once, that they are matching's steps on
-- the book, and that the work ends. Assumes nothing.
use Rattle.std.specs.Prelude.{◌≡◌, List, ◌++◌, ℕ, ◌+◌, ◌≤◌, length}
use Rattle.matching.specs.Matching.{Ran}
use Rattle.table.specs.Heading.{work_of}
use Rattle.table.specs.Orders.{book_of}
use Rattle.calls.specs.Run.{Worked, worked}

-- both comes to what first and then the rest come to: the table at the end, all reports, all steps
pub record GoesOn (first then both : Worked) : Type 0 where
  pub table : both.table ≡ then.table
  pub reports : both.reports ≡ first.reports ++ then.reports
  pub steps : both.steps ≡ first.steps + then.steps

-- what was worked on a table is what was run on a book: the book and the order in work at the end, as many steps, and a report
-- for each event
pub record Agrees (w : Worked) (r : Ran) : Type 0 where
  pub book : book_of w.table ≡ r.book
  pub work : work_of w.table ≡ r.work
  pub steps : w.steps ≡ r.steps
  pub reports : length w.reports ≡ length r.events

-- with a budget of n the work ends, in at most m + 1 steps
pub record Ended (n : ℕ) (t : List ℕ) (room m : ℕ) : Type 0 where
  pub ended : work_of (worked n t room).table ≡ 0
  pub within : (worked n t room).steps ≤ m + 1
