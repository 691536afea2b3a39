-- What it is to go on with a load that stopped for want of room: Run what it left in work, and load the rest of the buffer. Assumes nothing.
use Rattle.std.specs.Prelude.{◌≡◌, cond, List, ◌++◌, ℕ, ◌+◌, eqb}
use Rattle.table.specs.Heading.{work_of}
use Rattle.calls.specs.Run.{Ran}
use Rattle.load.specs.Load.{Loaded, load_number, load_place, load_finished}

-- the message that is still in work, if there is one, in number
unfoldable pub left_in : List ℕ → ℕ
left_in t = cond (eqb (work_of t) 0) 0 1

-- a first load, a Run and a second load come to what one load comes to: its number, place, table and reports; and as many messages are finished,
-- the one that Run ended counted
pub record GoesOn (first : Loaded) (then : Ran) (second whole : Loaded) : Type 0 where
  pub number : load_number second.answer ≡ load_number whole.answer
  pub place : load_place first.answer + load_place second.answer ≡ load_place whole.answer
  pub finished : load_finished first.answer + left_in first.table + load_finished second.answer ≡ load_finished whole.answer
  pub table_is : second.table ≡ whole.table
  pub reports_are : first.reports ++ (then.reports ++ second.reports) ≡ whole.reports
