-- What becomes of an order with a minimum between two tables, told by what was read of the reports written between them (document 02,
-- T-05). The order is named by its record. Assumes nothing.
use Rattle.std.specs.Prelude.{◌≡◌, List, [], ◌∷◌, ◌≢◌, ℕ, ◌≤◌}
use Rattle.matching.specs.declared.Event.TheVariants.{Killed}
use Rattle.matching.specs.Matching.{open_of, minimum_of}
use Rattle.table.specs.Orders.{order_at, order_id_at, filled}
use Rattle.report.specs.declared.Reading.{Reading}
use Rattle.promises.specs.Shown.{ReportsOf}

-- the order of record k was canceled whole: by one report, with 378=99; nothing of it is open, and every other order is as it was
pub record CanceledWhole (t u : List ℕ) (rs : List Reading) (k : ℕ) : Type 0 where
  pub report : ReportsOf (order_id_at t) rs (Killed k (open_of (order_at t k)) ∷ [])
  pub shut : open_of (order_at u k) ≡ 0
  pub others : (i : ℕ) → 1 ≤ i → i ≤ filled t → i ≢ k → order_at u i ≡ order_at t i

-- it has executed its minimum or more
pub record Reached (t u : List ℕ) (k : ℕ) : Type 0 where
  pub executed : minimum_of (order_at t k) ≤ (order_at u k).executed
