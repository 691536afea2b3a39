-- Whether a request can be done on a table (document 01, "Reading a message", the checks of D, F and G; document 02, T-09): the first
-- check that fails gives the reason, 103 of a new order and 102 of a change. A ClOrdID is in the table while a record has it, those
-- of dead orders included. Assumes nothing.
use Rattle.std.specs.Prelude.{Bool, cond, not, ◌&&◌, ◌||◌, List, ℕ, ◌+◌, eqb, ltb, Result, Ok, Err}
use Rattle.octets.specs.Octets.{part_at, same_bytes}
use Rattle.fix.specs.declared.frame.Part.{Part}
use Rattle.request.specs.declared.NewOrder.{NewOrder}
use Rattle.request.specs.declared.Replacement.{Replacement}
use Rattle.request.specs.declared.Cancellation.{Cancellation}
use Rattle.matching.specs.Matching.{open_of}
use Rattle.table.specs.Heading.{code_of, is_listed}
use Rattle.table.specs.Orders.{order_at, filled, record_with, record_for}
use Rattle.calls.specs.declared.OrderReason.{OrderReason}
use Rattle.calls.specs.declared.OrderReason.TheVariants.{NoRecord, OtherCode, IdInUse, Stranger}
use Rattle.calls.specs.declared.ChangeReason.{ChangeReason}
use Rattle.calls.specs.declared.ChangeReason.TheVariants.{NothingOpen, NoSuchOrder, Unfit}

-- the value of 103 of a new order, and of 102 of a change
abbrev pub order_number : OrderReason → ℕ
order_number NoRecord = 0
order_number OtherCode = 1
order_number IdInUse = 6
order_number Stranger = 99

abbrev pub change_number : ChangeReason → ℕ
change_number NothingOpen = 0
change_number NoSuchOrder = 1
change_number Unfit = 2

-- the text that stands at a part of the message
abbrev pub text_of : List ℕ → Part → List ℕ
text_of message p = part_at message p.start p.len

-- the record that has a ClOrdID; 0 if none has
unfoldable pub holder : List ℕ → List ℕ → ℕ
holder t cl_ord_id = record_with t (filled t) cl_ord_id

abbrev pub in_table : List ℕ → List ℕ → Bool
in_table t cl_ord_id = not (eqb (holder t cl_ord_id) 0)

-- the code is the market's; codes are compared as text
abbrev pub is_code : List ℕ → List ℕ → Bool
is_code t code = same_bytes code (code_of t)

-- a new order, 103: 1 another code, 99 an MPID that is not listed, 6 a ClOrdID in the table, 0 no record that it can take, which is so
-- exactly if 255 orders are open
unfoldable pub new_stands : List ℕ → List ℕ → NewOrder → Result (Unit {0}) OrderReason
new_stands t message o =
    cond (not (is_code t (text_of message o.code))) (Err OtherCode)
    (cond (ltb 0 o.terms.mpid && not (is_listed t o.terms.mpid)) (Err Stranger)
    (cond (in_table t (text_of message o.id)) (Err IdInUse)
    (cond (eqb (record_for t) 0) (Err NoRecord)
    (Ok tt))))

-- a change of the order that has ClOrdID 41, record k, 102: 1 another code or no such order, 2 another side, 0 nothing open, 2 a
-- new ClOrdID that is in the table
unfoldable pub change_stands : List ℕ → ℕ → List ℕ → List ℕ → ℕ → Result (Unit {0}) ChangeReason
change_stands t k code cl_ord_id side =
    cond (not (is_code t code) || eqb k 0) (Err NoSuchOrder)
    (cond (not (eqb side (order_at t k).side)) (Err Unfit)
    (cond (eqb (open_of (order_at t k)) 0) (Err NothingOpen)
    (cond (in_table t cl_ord_id) (Err Unfit)
    (Ok tt))))

-- a cancel
unfoldable pub cancel_stands : List ℕ → List ℕ → Cancellation → Result (Unit {0}) ChangeReason
cancel_stands t message o =
    change_stands t (holder t (text_of message o.original)) (text_of message o.code) (text_of message o.id) o.side

-- a replacement: 2 also if its quantity is not above executed + decremented
abbrev pub and_above : List ℕ → ℕ → ℕ → Result (Unit {0}) ChangeReason → Result (Unit {0}) ChangeReason
and_above t k quantity (Err r) = Err r
and_above t k quantity (Ok stands) =
    cond (ltb ((order_at t k).executed + (order_at t k).decremented) quantity) (Ok tt) (Err Unfit)

unfoldable pub replace_stands : List ℕ → List ℕ → Replacement → Result (Unit {0}) ChangeReason
replace_stands t message o =
    let k = holder t (text_of message o.original) in
    and_above t k o.quantity
    (change_stands t k (text_of message o.code) (text_of message o.id) o.side)
