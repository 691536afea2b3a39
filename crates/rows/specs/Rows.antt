-- The seven kinds of report, each as its row of fields (document 01, "The reports"; document 02, T-05 and T-08; source documents 000
-- and 003, 7.2 and 7.5.1 to 7.5.4, without 797): the header's fields from 35 on, then the body's with their tags ascending; 8, 9 and
-- 10 are the frame's. 34 and 17 are the report's number, 52 and 60 the causing message's 52; all of an order is taken after the
-- event, its 38 is the quantity accepted, also after a decrement, and its 54, 59, 110, 544 and 8214 are as they were sent. A bond
-- market and an equities market have one row for each kind; the few fields that only one of them has are named once. Assumes nothing.
use Rattle.std.specs.Prelude.{cond, List, [], ◌∷◌, ◌++◌, ℕ, ◌+◌, ◌-◌, ◌%◌, eqb, ltb, length, replicate}
use Prim.Native.Char.{Char as Letter}
use Rattle.octets.specs.Characters.{byte}
use Rattle.decimal.specs.declared.Instrument.{Instrument}
use Rattle.decimal.specs.declared.Instrument.TheVariants.{Bonds, Equities}
use Rattle.decimal.specs.Writing.{mean_of}
use Rattle.matching.specs.declared.Order.{Order}
use Rattle.matching.specs.Matching.{open_of}
use Rattle.report.specs.declared.Place.{Place}
use Rattle.report.specs.declared.Value.{Value}
use Rattle.report.specs.declared.Value.TheVariants.{Absent, Number, Char, Sent, Stored, Level, Mean}
use Rattle.report.specs.declared.Field.{Field}
use Rattle.report.specs.Fields.{word, group_of}
use Rattle.rows.specs.declared.Stamp.{Stamp}
use Rattle.rows.specs.declared.Shown.{Shown}
use Rattle.rows.specs.declared.Figures.{Figures}
use Rattle.rows.specs.declared.Ground.{Ground}
use Rattle.rows.specs.declared.Fill.{Fill}
use Rattle.rows.specs.declared.Refused.{Refused}
use Rattle.rows.specs.declared.Unchanged.{Unchanged}
use Rattle.rows.specs.declared.Faulty.{Faulty}

-- ---- single values

-- a tag with its value
infix 80 ◌is◌
abbrev pub ◌is◌ : ℕ → Value → Field
tag is v = record { tag = tag; value = v }

-- the text at a place: of the message that was sent, or of the table where it is stored
unfoldable pub text : Place → Value
text p = cond p.sent (Sent p.start p.length) (Stored p.start p.length)

-- a number, or no value where it is 0
unfoldable pub or_number : ℕ → Value
or_number n = cond (eqb n 0) Absent (Number n)

-- one character
abbrev pub char : Letter → Value
char c = Char (byte c)

-- a number of one digit as a character
unfoldable pub digit : ℕ → Value
digit n = Char (byte "0" + n % 10)

-- the same, or no value where it is 0
unfoldable pub or_digit : ℕ → Value
or_digit n = cond (eqb n 0) Absent (digit n)

-- `NONE`
abbrev pub nobody : Value
nobody = word "NONE"

-- 37 where there may be no order, which then is number 0
unfoldable pub or_nobody : ℕ → Value
or_nobody n = cond (eqb n 0) nobody (Number n)

-- ---- what only one of the markets has

-- 50
unfoldable pub group : Instrument → Value
group q = word (group_of q)

-- behind 378: 423, which is 9 for every bond, or CashMargin
unfoldable pub own_field : Instrument → Shown → Field
own_field Bonds o = 423 is Number 9
own_field Equities o = 544 is digit o.cash

-- behind 8060: MarginTransactionType, if the order has one
unfoldable pub last_field : Instrument → Shown → Field
last_field Bonds o = 0 is Absent
last_field Equities o = 8214 is or_digit o.margin

-- of a Trade: the other's MPID, and how many others there are
unfoldable pub other_field : Instrument → Fill → Field
other_field Bonds f = 375 is Number f.other
other_field Equities f = 0 is Absent

unfoldable pub count_field : Instrument → Field
count_field Bonds = 382 is Number 1
count_field Equities = 0 is Absent

-- ---- what is worked out of an order

-- 38: the quantity accepted, which a decrement leaves as it is
abbrev pub order_qty : Order → ℕ
order_qty o = o.qty

-- AvgPx: the mean of what has executed
unfoldable pub avg_px : Order → ℕ
avg_px o = mean_of o.sum o.executed

-- 39 of Replaced: 1 if anything has executed, else 5
unfoldable pub replaced_status : Order → ℕ
replaced_status o = cond (eqb o.executed 0) 5 1

-- 39 and 150 of a Trade: 2 if it leaves nothing open, else 1
unfoldable pub trade_status : Order → ℕ
trade_status o = cond (eqb (open_of o) 0) 2 1

-- 39 of a Cancel reject where an order has 41: 4 if canceled, 2 if else nothing is open, 1 if partly executed, else 0
unfoldable pub status_of : Order → ℕ
status_of o = cond (ltb 0 o.canceled) 4 (cond (eqb (open_of o) 0) 2 (cond (ltb 0 o.executed) 1 0))

-- all of it: 109 if the order has an MPID, 110 if it has a MinQty, 6, 151, 54, 59, 8060, 39 of a Trade and of Replaced, and the fields
-- that only one of the markets has
unfoldable pub figures_of : Instrument → Shown → Figures
figures_of q o =
    record {
      client = or_number o.order.mpid;
      least = or_number o.order.minqty;
      mean = avg_px o.order;
      left = open_of o.order;
      side = digit o.order.side;
      tif = digit o.order.tif;
      class = digit o.class;
      traded = digit (trade_status o.order);
      replaced = digit (replaced_status o.order);
      own = own_field q o;
      last = last_field q o;
    }

-- ---- 41 and 378 of Replaced and Canceled: as requested, 41 alone; by prevention 378=100, and on a decrement the order's own 11
-- as 41; of an order killed for want of its minimum and of an immediate order's rest 378=99

abbrev pub requested : Value → Ground
requested orig = record { orig = orig; reason = Absent }

abbrev pub prevented : Ground
prevented = record { orig = Absent; reason = Number 100 }

abbrev pub decremented : Shown → Ground
decremented o = record { orig = o.id; reason = Number 100 }

abbrev pub expired : Ground
expired = record { orig = Absent; reason = Number 99 }

-- ---- a row as it is handed on

-- with fields of no value behind it, 36 in all
abbrev pub padded : List Field → List Field
padded row = row ++ replicate (36 - length row) (0 is Absent)

-- ---- the rows

-- the header's fields, 35 given as its character
unfoldable pub header : ℕ → Stamp → List Field
header type s =
    35 is Char type
    ∷ 34 is Number s.number
    ∷ 49 is s.venue
    ∷ 50 is group s.of
    ∷ 52 is s.time
    ∷ 56 is s.port
    ∷ []

-- Accepted
unfoldable pub accepted_fields : Stamp → Shown → Figures → List Field
accepted_fields s o g =
    header (byte "8") s
    ++ (1 is o.account
    ∷ 6 is Mean s.of g.mean
    ∷ 11 is o.id
    ∷ 14 is Number o.order.executed
    ∷ 17 is Number s.number
    ∷ 20 is char "0"
    ∷ 37 is Number o.orderid
    ∷ 38 is Number (order_qty o.order)
    ∷ 39 is char "0"
    ∷ 40 is char "2"
    ∷ 44 is Level s.of o.order.level
    ∷ 47 is Char o.capacity
    ∷ 54 is g.side
    ∷ 55 is o.code
    ∷ 59 is g.tif
    ∷ 60 is s.time
    ∷ 109 is g.client
    ∷ 110 is g.least
    ∷ 150 is char "0"
    ∷ 151 is Number g.left
    ∷ g.own
    ∷ 8060 is g.class
    ∷ g.last
    ∷ [])

abbrev pub accepted_row : Stamp → Shown → List Field
accepted_row s o = accepted_fields s o (figures_of s.of o)

-- Replaced, as requested or by a decrement
unfoldable pub replaced_fields : Stamp → Shown → Figures → Ground → List Field
replaced_fields s o g w =
    header (byte "8") s
    ++ (1 is o.account
    ∷ 6 is Mean s.of g.mean
    ∷ 11 is o.id
    ∷ 14 is Number o.order.executed
    ∷ 17 is Number s.number
    ∷ 20 is char "0"
    ∷ 37 is Number o.orderid
    ∷ 38 is Number (order_qty o.order)
    ∷ 39 is g.replaced
    ∷ 40 is char "2"
    ∷ 41 is w.orig
    ∷ 44 is Level s.of o.order.level
    ∷ 47 is Char o.capacity
    ∷ 54 is g.side
    ∷ 55 is o.code
    ∷ 59 is g.tif
    ∷ 60 is s.time
    ∷ 109 is g.client
    ∷ 110 is g.least
    ∷ 150 is char "5"
    ∷ 151 is Number g.left
    ∷ 378 is w.reason
    ∷ g.own
    ∷ 8060 is g.class
    ∷ g.last
    ∷ [])

abbrev pub replaced_row : Stamp → Shown → Ground → List Field
replaced_row s o w = replaced_fields s o (figures_of s.of o) w

-- Canceled, as requested, by prevention, or an immediate order that was killed or whose rest expired
unfoldable pub canceled_fields : Stamp → Shown → Figures → Ground → List Field
canceled_fields s o g w =
    header (byte "8") s
    ++ (1 is o.account
    ∷ 6 is Mean s.of g.mean
    ∷ 11 is o.id
    ∷ 14 is Number o.order.executed
    ∷ 17 is Number s.number
    ∷ 20 is char "0"
    ∷ 37 is Number o.orderid
    ∷ 38 is Number (order_qty o.order)
    ∷ 39 is char "4"
    ∷ 40 is char "2"
    ∷ 41 is w.orig
    ∷ 44 is Level s.of o.order.level
    ∷ 47 is Char o.capacity
    ∷ 54 is g.side
    ∷ 55 is o.code
    ∷ 59 is g.tif
    ∷ 60 is s.time
    ∷ 109 is g.client
    ∷ 110 is g.least
    ∷ 150 is char "4"
    ∷ 151 is Number g.left
    ∷ 378 is w.reason
    ∷ g.own
    ∷ 8060 is g.class
    ∷ g.last
    ∷ [])

abbrev pub canceled_row : Stamp → Shown → Ground → List Field
canceled_row s o w = canceled_fields s o (figures_of s.of o) w

-- A Trade
unfoldable pub trade_fields : Stamp → Shown → Figures → Fill → List Field
trade_fields s o g f =
    header (byte "8") s
    ++ (1 is o.account
    ∷ 6 is Mean s.of g.mean
    ∷ 11 is o.id
    ∷ 14 is Number o.order.executed
    ∷ 17 is Number s.number
    ∷ 20 is char "0"
    ∷ 31 is Level s.of f.level
    ∷ 32 is Number f.quantity
    ∷ 37 is Number o.orderid
    ∷ 38 is Number (order_qty o.order)
    ∷ 39 is g.traded
    ∷ 40 is char "2"
    ∷ 44 is Level s.of o.order.level
    ∷ 47 is Char o.capacity
    ∷ 54 is g.side
    ∷ 55 is o.code
    ∷ 59 is g.tif
    ∷ 60 is s.time
    ∷ 109 is g.client
    ∷ 110 is g.least
    ∷ 150 is g.traded
    ∷ 151 is Number g.left
    ∷ other_field s.of f
    ∷ count_field s.of
    ∷ g.own
    ∷ 851 is Number f.liquidity
    ∷ 880 is Number f.first
    ∷ 8060 is g.class
    ∷ g.last
    ∷ [])

abbrev pub trade_row : Stamp → Shown → Fill → List Field
trade_row s o f = trade_fields s o (figures_of s.of o) f

-- Rejected
unfoldable pub rejected_row : Stamp → Refused → List Field
rejected_row s r =
    header (byte "8") s
    ++ (6 is Mean s.of (mean_of 0 0)
    ∷ 11 is text r.id
    ∷ 14 is Number 0
    ∷ 17 is Number s.number
    ∷ 20 is char "0"
    ∷ 37 is nobody
    ∷ 38 is Number r.quantity
    ∷ 39 is char "8"
    ∷ 54 is digit r.side
    ∷ 55 is text r.code
    ∷ 103 is Number r.reason
    ∷ 150 is char "8"
    ∷ 151 is Number 0
    ∷ [])

-- A Cancel reject
unfoldable pub cancel_reject_row : Stamp → Unchanged → List Field
cancel_reject_row s u =
    header (byte "9") s
    ++ (11 is text u.id
    ∷ 37 is or_nobody u.orderid
    ∷ 39 is digit u.status
    ∷ 41 is text u.orig
    ∷ 102 is Number u.reason
    ∷ 434 is Number u.response
    ∷ [])

-- A Session Reject
unfoldable pub session_reject_row : Stamp → Faulty → List Field
session_reject_row s f =
    header (byte "3") s
    ++ (45 is Number f.sequence
    ∷ 371 is Number f.tag
    ∷ 372 is text f.kind
    ∷ 373 is Number f.reason
    ∷ [])
