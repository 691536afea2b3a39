-- What a market promises to whoever works on it, as facts: the same clauses as in Market, which the laws derive from the test
-- and give back to it. What holds of its orders and of its book is what matching works with. Assumes nothing.
use Rattle.std.specs.Prelude.{◌≡◌, true, false, List, ℕ, ◌≤◌, ◌<◌, length}
use Rattle.octets.specs.Octets.{same_bytes}
use Rattle.matching.specs.declared.Event.{Event}
use Rattle.matching.specs.Matching.{who}
use Rattle.matching.specs.Held.{Held, Ready}
use Rattle.matching.specs.Quoted.{Quoted}
use Rattle.table.specs.declared.record.Marks.{Marks}
use Rattle.table.specs.Places.{table_bytes}
use Rattle.table.specs.Heading.{next_of, work_of, instrument_of, decided_of, is_listed}
use Rattle.table.specs.Orders.{cl_ord_id_at, order_id_at, order_at, filled, book_of}
use Rattle.table.specs.Market.{every, is_printable, has_settings, has_work, has_kind, rest_zero, is_record, has_decision, has_best}

-- each mark of an order fits a byte
pub record InBytes (marks : Marks) : Type 0 where
  pub capacity : marks.capacity < 256
  pub class : marks.class < 256
  pub cash : marks.cash < 256
  pub margin : marks.margin < 256

-- numbers given to n records, f i to record i, are distinct and below the next number
pub record FreshNumbers (f : ℕ → ℕ) (next n : ℕ) : Type 0 where
  pub below : (i : ℕ) → 1 ≤ i → i ≤ n → f i < next
  pub apart : (i j : ℕ) → 1 ≤ i → i ≤ n → 1 ≤ j → j ≤ n → f i ≡ f j → i ≡ j

-- all of a market
pub record Market (t : List ℕ) : Type 0 where
  pub long : length t ≡ table_bytes
  pub settings : has_settings t ≡ true
  pub next_low : 1 ≤ next_of t
  pub work : has_work t ≡ true
  pub kind : has_kind t ≡ true
  pub rest : rest_zero t ≡ true
  pub records : (i : ℕ) → 1 ≤ i → i ≤ filled t → is_record t i ≡ true
  pub ids : (j k : ℕ) → 1 ≤ j → j < k → k ≤ filled t → same_bytes (cl_ord_id_at t j) (cl_ord_id_at t k) ≡ false
  pub order_ids : FreshNumbers (order_id_at t) (next_of t) (filled t)
  pub decision : has_decision (book_of t) (work_of t) (decided_of t) ≡ true
  pub held : Held (is_listed t) (next_of t) (book_of t) (work_of t)
  pub quoted : (i : ℕ) → 1 ≤ i → i ≤ filled t → Quoted (instrument_of t) (order_at t i)
  pub best : has_best t ≡ true

-- a ClOrdID that an order of the table may take: 1 to 32 characters, and none has it
pub record Named (t cl_ord_id : List ℕ) : Type 0 where
  pub some : 1 ≤ length cl_ord_id
  pub short : length cl_ord_id ≤ 32
  pub printable : every is_printable cl_ord_id ≡ true
  pub fresh : (i : ℕ) → 1 ≤ i → i ≤ filled t → same_bytes (cl_ord_id_at t i) cl_ord_id ≡ false

-- event e can happen to record k of the table
pub record Due (t : List ℕ) (k : ℕ) (e : Event) : Type 0 where
  pub long : length t ≡ table_bytes
  pub whose : k ≡ who e
  pub ready : Ready (book_of t) e
