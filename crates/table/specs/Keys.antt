-- What the searches among the records of a market go by: a range that the number of filled records is in, and a ClOrdID as numbers.
-- Nothing here need be believed: the contracts of the searches cite `filled` and `record_with`. Assumes nothing.
use Rattle.std.specs.Prelude.{◌≡◌, List, ℕ, ◌+◌, ◌≤◌, ◌<◌}
use Rattle.octets.specs.Octets.{le_at, text_bytes}
use Rattle.table.specs.declared.ids.Key.{Key}
use Rattle.table.specs.Places.{cl_ord_id_room}
use Rattle.table.specs.Orders.{filled}

-- `from` records are filled, and fewer than `many` behind them
pub record Halved (t : List ℕ) (from many : ℕ) : Type 0 where
  pub within : from + many ≤ 256
  pub least : from ≤ filled t
  pub most : filled t < from + many

-- the key of a ClOrdID: its bytes as a record holds them, eight to a number, the last one left out
pub record Keyed (cl_ord_id : List ℕ) (key : Key) : Type 0 where
  pub first : key.first ≡ le_at 8 (text_bytes cl_ord_id_room cl_ord_id) 0
  pub second : key.second ≡ le_at 8 (text_bytes cl_ord_id_room cl_ord_id) 8
  pub third : key.third ≡ le_at 8 (text_bytes cl_ord_id_room cl_ord_id) 16
  pub fourth : key.fourth ≡ le_at 8 (text_bytes cl_ord_id_room cl_ord_id) 24
