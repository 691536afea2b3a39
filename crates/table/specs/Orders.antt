-- The orders of a table by name: reading a record, the book that matching works on, and the writes that change a record
-- (document 01, "The table and its calls"; document 02, T-08 and T-09). Records count from 1. Writing changes the named bytes alone.
-- Assumes nothing: whether what is read makes sense is said in Market.
use Rattle.std.specs.Prelude.{Bool, not, cond, List, [], ◌∷◌, ◌++◌, ℕ, zero, suc, ◌+◌, eqb, ltb, get_or, replicate}
use Rattle.octets.specs.Octets.{le_at, bytes_of, put, text_at, text_bytes, put_text, same_bytes}
use Rattle.octets.specs.Tests.{first_from}
use Rattle.matching.specs.declared.Order.{Order}
use Rattle.matching.specs.declared.Event.{Event}
use Rattle.matching.specs.Matching.{Book, is_open, who, change}
use Rattle.table.specs.declared.record.Marks.{Marks}
use Rattle.table.specs.Places.{most_orders, record_at, cl_ord_id_room, account_byte, account_room, side_byte, tif_byte, capacity_byte, class_byte, level_byte, qty_byte, place_byte, mpid_byte, sum_byte, executed_byte, decremented_byte, canceled_byte, order_id_byte, min_qty_byte, cash_byte, margin_byte, record_spare}

-- ---- reading

-- the ClOrdID and the account (empty for none) of record i
abbrev pub cl_ord_id_at : List ℕ → ℕ → List ℕ
cl_ord_id_at t i = text_at t (record_at i)

abbrev pub account_at : List ℕ → ℕ → List ℕ
account_at t i = text_at t (record_at i + account_byte)

-- the OrderID, the number of the report that accepted the order: only reports and the rules of a market read it
abbrev pub order_id_at : List ℕ → ℕ → ℕ
order_id_at t i = le_at 4 t (record_at i + order_id_byte)

-- the capacity, a character, the classification, a number, and CashMargin and MarginTransactionType, numbers, 0 for none: only reports read them
abbrev pub capacity_at : List ℕ → ℕ → ℕ
capacity_at t i = get_or t (record_at i + capacity_byte) 0

abbrev pub classification_at : List ℕ → ℕ → ℕ
classification_at t i = get_or t (record_at i + class_byte) 0

abbrev pub cash_at : List ℕ → ℕ → ℕ
cash_at t i = get_or t (record_at i + cash_byte) 0

abbrev pub margin_at : List ℕ → ℕ → ℕ
margin_at t i = get_or t (record_at i + margin_byte) 0

unfoldable pub marks_at : List ℕ → ℕ → Marks
marks_at t i = record { capacity = capacity_at t i; class = classification_at t i; cash = cash_at t i; margin = margin_at t i }

-- record i as matching takes it: side 1 buys and any other sells, time in force 0 is Day, 3 IOC and 4 Fill or Kill, a yield or a price
-- is held as its level
unfoldable pub order_at : List ℕ → ℕ → Order
order_at t i =
    record {
      side = get_or t (record_at i + side_byte) 0;
      tif = get_or t (record_at i + tif_byte) 0;
      level = le_at 4 t (record_at i + level_byte);
      qty = le_at 4 t (record_at i + qty_byte);
      executed = le_at 4 t (record_at i + executed_byte);
      decremented = le_at 4 t (record_at i + decremented_byte);
      canceled = le_at 4 t (record_at i + canceled_byte);
      sum = le_at 8 t (record_at i + sum_byte);
      place = le_at 4 t (record_at i + place_byte);
      mpid = le_at 4 t (record_at i + mpid_byte);
      minqty = le_at 4 t (record_at i + min_qty_byte);
    }

-- record i is not filled: its first byte, the length of the ClOrdID, is 0
abbrev pub is_free : List ℕ → ℕ → Bool
is_free t i = eqb (get_or t (record_at i) 0) 0

-- the number of filled records: those before the first one that is not
unfoldable pub filled : List ℕ → ℕ
filled t = first_from (λ k. is_free t (k + 1)) 0 most_orders

-- the orders of n records from record i on
unfoldable pub orders_from : List ℕ → ℕ → ℕ → Book
orders_from t i zero = []
orders_from t i (suc n) = order_at t i ∷ orders_from t (i + 1) n

-- the book: the orders of the filled records, record 1 first
unfoldable pub book_of : List ℕ → Book
book_of t = orders_from t 1 (filled t)

-- the first of n records of which a test holds; 0 if it holds of none
unfoldable pub first_record : (ℕ → Bool) → ℕ → ℕ
first_record f n = let k = first_from (λ j. f (j + 1)) 0 n in cond (ltb k n) (k + 1) 0

-- the record among the first n that has this ClOrdID; 0 if none has
unfoldable pub record_with : List ℕ → ℕ → List ℕ → ℕ
record_with t n xs = first_record (λ i. same_bytes (cl_ord_id_at t i) xs) n

-- the record that a new order takes: the next one while one is not filled; of a full table the lowest-numbered that has nothing
-- open; 0 if every order is open
unfoldable pub record_for : List ℕ → ℕ
record_for t = cond (ltb (filled t) most_orders) (filled t + 1) (first_record (λ i. not (is_open (order_at t i))) most_orders)

-- ---- writing

-- the ClOrdID of record i
abbrev pub put_id : List ℕ → ℕ → List ℕ → List ℕ
put_id t i xs = put_text cl_ord_id_room t (record_at i) xs

-- the terms of record i: level, OrderQty, place
unfoldable pub term_bytes : Order → List ℕ
term_bytes o = bytes_of 4 o.level ++ (bytes_of 4 o.qty ++ bytes_of 4 o.place)

abbrev pub put_terms : List ℕ → ℕ → Order → List ℕ
put_terms t i o = put t (record_at i + level_byte) (term_bytes o)

-- the amounts of record i: sum, executed, decremented, canceled
unfoldable pub amount_bytes : Order → List ℕ
amount_bytes o = bytes_of 8 o.sum ++ (bytes_of 4 o.executed ++ (bytes_of 4 o.decremented ++ bytes_of 4 o.canceled))

abbrev pub put_amounts : List ℕ → ℕ → Order → List ℕ
put_amounts t i o = put t (record_at i + sum_byte) (amount_bytes o)

-- CashMargin, MarginTransactionType, and zeros up to the end of the record
unfoldable pub end_bytes : Marks → List ℕ
end_bytes marks = bytes_of 1 marks.cash ++ (bytes_of 1 marks.margin ++ replicate record_spare 0)

-- what stands behind the MPID, up to the end of the record: the amounts, the OrderID, MinQty, the end
unfoldable pub tail_bytes : ℕ → Marks → Order → List ℕ
tail_bytes order_id marks o = amount_bytes o ++ (bytes_of 4 order_id ++ (bytes_of 4 o.minqty ++ end_bytes marks))

-- a record's bytes behind its texts: side, time in force, capacity, classification; the terms; the MPID; the rest
unfoldable pub field_bytes : ℕ → Marks → Order → List ℕ
field_bytes order_id marks o =
    (o.side ∷ o.tif ∷ marks.capacity ∷ marks.class ∷ []) ++ (term_bytes o ++ (bytes_of 4 o.mpid ++ tail_bytes order_id marks o))

-- all bytes of a record
unfoldable pub record_of : ℕ → List ℕ → List ℕ → Marks → Order → List ℕ
record_of order_id cl_ord_id account marks o =
    text_bytes cl_ord_id_room cl_ord_id ++ (text_bytes account_room account ++ field_bytes order_id marks o)

-- ---- the table after an event

-- after a trade, a cancel, a decrement or an expiry: the amounts of the event's order
unfoldable pub applied : List ℕ → Event → List ℕ
applied t e = put_amounts t (who e) (change e (order_at t (who e)))

-- after event e withdraws its order as requested: the amounts, and a new ClOrdID
unfoldable pub withdrawn : List ℕ → List ℕ → Event → List ℕ
withdrawn t cl_ord_id e = put_amounts (put_id t (who e) cl_ord_id) (who e) (change e (order_at t (who e)))

-- after event e replaces its order as requested: the terms, and a new ClOrdID
unfoldable pub replaced : List ℕ → List ℕ → Event → List ℕ
replaced t cl_ord_id e = put_terms (put_id t (who e) cl_ord_id) (who e) (change e (order_at t (who e)))

-- after a new order, o, is accepted as record i with this OrderID: nothing is left of what the record held
unfoldable pub accepted : List ℕ → ℕ → ℕ → List ℕ → List ℕ → Marks → Order → List ℕ
accepted t i order_id cl_ord_id account marks o = put t (record_at i) (record_of order_id cl_ord_id account marks o)
