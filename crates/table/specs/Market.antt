-- When a table is a market (document 01, "The table and its calls"; document 02, T-05, T-06, T-08, T-09): one definition for each clause, in the
-- paper's order. The places that the paper leaves to the team are decided here: bytes that nothing uses are zero, and so is the
-- room behind a text; the order in work is a filled record; while one is in work its 52 is a time, and otherwise zeros; OrderQty,
-- place and OrderID are at least 1. What depends on what the market trades is asked by the kind that the heading notes. Assumes
-- nothing: any list of bytes is a market or is not.
use Rattle.std.specs.Prelude.{Bool, true, not, cond, ◌&&◌, ◌||◌, List, [], ◌∷◌, ℕ, suc, ◌+◌, ◌*◌, ◌-◌, eqb, leb, ltb, length, get_or, drop}
use Rattle.octets.specs.Octets.{part_at, text_at, same_bytes, all_zero}
use Rattle.octets.specs.Characters.{byte}
use Rattle.octets.specs.Tests.{all_up_to}
use Rattle.decimal.specs.declared.Instrument.{Instrument}
use Rattle.decimal.specs.declared.Instrument.TheVariants.{Bonds, Equities}
use Rattle.decimal.specs.Instruments.{highest}
use Rattle.decimal.specs.Reading.{is_digit, is_time}
use Rattle.matching.specs.declared.Order.{Order}
use Rattle.matching.specs.Matching.{Book, at, open_of, is_open, is_side_of, is_buy, is_immediate, minimum_of, crosses, opposed_to}
use Rattle.matching.specs.Held.{may_minimum}
use Rattle.table.specs.declared.record.Marks.{Marks}
use Rattle.table.specs.Places.{table_bytes, venue_byte, port_byte, id_room, code_byte, code_room, stamp_byte, stamp_room, kind_byte, mpids_byte, modes_byte, most_mpids, best_byte, best_bytes, record_at, cl_ord_id_room, account_byte, account_room, record_end, record_spare}
use Rattle.table.specs.Heading.{next_of, work_of, stamp_of, kind_number, instrument_of, decided_of, mpid_at, mode_at, entries, is_listed}
use Rattle.table.specs.Orders.{cl_ord_id_at, order_id_at, marks_at, order_at, filled, book_of}
use Rattle.table.specs.Best.{best_due}

-- ---- texts

-- every byte passes the test
unfoldable pub every : (ℕ → Bool) → List ℕ → Bool
every f [] = true
every f (x ∷ xs) = f x && every f xs

-- a byte from low to high
abbrev pub is_between : ℕ → ℕ → ℕ → Bool
is_between low high x = leb low x && leb x high

-- a character of a venue or port id, 21 to 7E hex, and one of a ClOrdID or an account, 20 to 7E hex
abbrev pub is_graphic : ℕ → Bool
is_graphic x = is_between 0x21 0x7e x

abbrev pub is_printable : ℕ → Bool
is_printable x = is_between 0x20 0x7e x

-- a character of a bond's code, a digit, and of a share's symbol, 21 to 7E hex
unfoldable pub is_code_character : Instrument → ℕ → Bool
is_code_character Bonds = is_digit
is_code_character Equities = is_graphic

-- zeros stand behind the text at place p, up to its room for n characters
unfoldable pub is_padded : ℕ → List ℕ → ℕ → Bool
is_padded n t p = all_zero (part_at t (p + 1 + get_or t p 0) (n - get_or t p 0))

-- the text at place p has low to n characters, of which each passes the test, and zeros behind it
unfoldable pub is_text : (ℕ → Bool) → ℕ → ℕ → List ℕ → ℕ → Bool
is_text f low n t p = leb low (get_or t p 0) && leb (get_or t p 0) n && every f (text_at t p) && is_padded n t p

-- ---- the heading

-- the length is right
unfoldable pub has_length : List ℕ → Bool
has_length t = eqb (length t) table_bytes

-- venue and port have 1 to 8 characters, the code has 1 to 9, such as the market's codes have
unfoldable pub has_names : List ℕ → Bool
has_names t =
    is_text is_graphic 1 id_room t venue_byte && is_text is_graphic 1 id_room t port_byte
    && is_text (is_code_character (instrument_of t)) 1 code_room t code_byte

-- a listed MPID is 1 to 999,999 and its mode 1, 2 or 3; it is not listed before
unfoldable pub is_entry : List ℕ → ℕ → Bool
is_entry t k =
    leb (mpid_at t k) 999999 && leb 1 (mode_at t k) && leb (mode_at t k) 3
    && all_up_to (λ j. not (eqb (mpid_at t j) (mpid_at t k))) k

-- 1 to 8 MPIDs are listed, and zeros stand behind the last one and behind its mode
unfoldable pub has_list : List ℕ → Bool
has_list t =
    leb 1 (entries t) && all_up_to (is_entry t) (entries t)
    && all_zero (part_at t (mpids_byte + 4 * entries t) (4 * (most_mpids - entries t)))
    && all_zero (part_at t (modes_byte + entries t) (most_mpids - entries t))

-- the settings keep the ranges of opening
unfoldable pub has_settings : List ℕ → Bool
has_settings t = has_names t && has_list t

-- the next number is 1 to 1,000,000,000
unfoldable pub has_next : List ℕ → Bool
has_next t = leb 1 (next_of t) && leb (next_of t) 1000000000

-- the 52 of the order in work is a time; that of none is zeros
unfoldable pub has_stamp : List ℕ → Bool
has_stamp t = cond (eqb (work_of t) 0) (all_zero (part_at t stamp_byte (1 + stamp_room))) (is_time (stamp_of t) && is_padded stamp_room t stamp_byte)

-- nothing is in work, or a filled record with its 52
unfoldable pub has_work : List ℕ → Bool
has_work t = leb (work_of t) (filled t) && has_stamp t

-- what the market trades is noted as 0 or 1
unfoldable pub has_kind : List ℕ → Bool
has_kind t = leb (get_or t kind_byte 0) 1

-- ---- the records

-- records are filled from 1 without gaps, and all behind the last filled one is zero
unfoldable pub rest_zero : List ℕ → Bool
rest_zero t = all_zero (drop (record_at (filled t + 1)) t)

-- a capacity, A or P, and a classification, 1, 3, 4, 5 or 6
unfoldable pub is_capacity : ℕ → Bool
is_capacity c = eqb c (byte "A") || eqb c (byte "P")

unfoldable pub is_class : ℕ → Bool
is_class c = eqb c 1 || (leb 3 c && leb c 6)

-- CashMargin and MarginTransactionType: a bond order has neither; an equities order has a CashMargin, 1 to 3, and may have a MarginTransactionType, 1 or 2,
-- but where CashMargin is 1, cash
unfoldable pub is_cash : Instrument → ℕ → ℕ → Bool
is_cash Bonds cash margin = eqb cash 0 && eqb margin 0
is_cash Equities cash margin = leb 1 cash && leb cash 3 && leb margin 2 && (not (eqb cash 1) || eqb margin 0)

-- the marks of an order are in range
unfoldable pub is_marked : Instrument → Marks → Bool
is_marked q marks = is_capacity marks.capacity && is_class marks.class && is_cash q marks.cash marks.margin

-- each field is in range: the texts, the marks, an OrderID, and zeros in the unused bytes
unfoldable pub is_record : List ℕ → ℕ → Bool
is_record t i =
    is_text is_printable 1 cl_ord_id_room t (record_at i)
    && is_text is_printable 0 account_room t (record_at i + account_byte)
    && is_marked (instrument_of t) (marks_at t i)
    && leb 1 (order_id_at t i)
    && all_zero (part_at t (record_at i + record_end) record_spare)

-- a side of the market, time in force 0, 3 or 4, MinQty on an IOC alone and at most OrderQty, a level from 1 to the market's highest,
-- OrderQty 1 to 999,999,999, a place
unfoldable pub is_ranged : Instrument → Order → Bool
is_ranged q o =
    is_side_of q o.side && (eqb o.tif 0 || is_immediate o) && may_minimum o
    && leb 1 o.level && leb o.level (highest q)
    && leb 1 o.qty && leb o.qty 999999999 && leb 1 o.place

-- the MPID is 0, for none, or listed
unfoldable pub is_known : List ℕ → ℕ → Bool
is_known t m = eqb m 0 || is_listed t m

-- executed, decremented and canceled are together at most OrderQty
unfoldable pub is_within : Order → Bool
is_within o = leb (o.executed + o.decremented + o.canceled) o.qty

-- something canceled means that nothing is open
unfoldable pub is_shut : Order → Bool
is_shut o = eqb o.canceled 0 || eqb (open_of o) 0

-- the sum of quantity times level is what the executed quantity can come to: between executed × 1 and executed × the highest level
unfoldable pub is_priced : Instrument → Order → Bool
is_priced q o = leb o.executed o.sum && leb o.sum (o.executed * highest q)

-- all of this holds of record i
unfoldable pub is_order : List ℕ → ℕ → Bool
is_order t i =
    is_record t i && is_ranged (instrument_of t) (order_at t i) && is_known t (order_at t i).mpid
    && is_within (order_at t i) && is_shut (order_at t i) && is_priced (instrument_of t) (order_at t i)

-- every filled record is an order
unfoldable pub has_orders : List ℕ → Bool
has_orders t = all_up_to (λ k. is_order t (k + 1)) (filled t)

-- ClOrdIDs are distinct: that of record j + 1 is that of no record before it
unfoldable pub is_fresh_id : List ℕ → ℕ → Bool
is_fresh_id t j = all_up_to (λ i. not (same_bytes (cl_ord_id_at t (i + 1)) (cl_ord_id_at t (j + 1)))) j

unfoldable pub has_ids : List ℕ → Bool
has_ids t = all_up_to (is_fresh_id t) (filled t)

-- numbers given to n records, f i to record i, are distinct and below the next number: that of record j + 1 is that of no record
-- before it
unfoldable pub is_fresh : (ℕ → ℕ) → ℕ → Bool
is_fresh f j = all_up_to (λ i. not (eqb (f (i + 1)) (f (j + 1)))) j

unfoldable pub are_fresh : (ℕ → ℕ) → ℕ → ℕ → Bool
are_fresh f next n = all_up_to (λ j. ltb (f (j + 1)) next && is_fresh f j) n

-- OrderIDs are distinct and below the next number
unfoldable pub has_order_ids : List ℕ → Bool
has_order_ids t = are_fresh (order_id_at t) (next_of t) (filled t)

-- ---- the book, with order w in work

-- places are distinct and below the next number
unfoldable pub has_places : Book → ℕ → Bool
has_places b next = are_fresh (λ i. (at b i).place) next (length b)

-- apart from the order in work, no IOC and no Fill or Kill is open
unfoldable pub is_done : Order → Bool
is_done o = not (is_immediate o && is_open o)

unfoldable pub no_ioc : Book → ℕ → Bool
no_ioc b w = all_up_to (λ k. eqb (suc k) w || is_done (at b (suc k))) (length b)

-- o and r are not an open buy and an open sell whose levels meet
unfoldable pub is_clear : Order → Order → Bool
is_clear o r = not (is_open o && is_buy o && (is_open r && not (is_buy r)) && crosses o.level r.level)

-- apart from the order in work, the level of every open buy is above that of every open sell: its yield is, or its price is below
unfoldable pub no_cross : Book → ℕ → Bool
no_cross b w =
    all_up_to (λ i. all_up_to (λ j. eqb (suc i) w || eqb (suc j) w || is_clear (at b (suc i)) (at b (suc j))) (length b)) (length b)

-- while the order in work has something open, the next number and two for each open opposite order and one more fit
unfoldable pub has_numbers : Book → ℕ → ℕ → Bool
has_numbers b w next = not (is_open (at b w)) || leb (next + 2 * opposed_to b w + 1) 1000000000

-- the clauses that matching must keep
unfoldable pub is_book : Book → ℕ → ℕ → Bool
is_book b w next = has_places b next && no_ioc b w && no_cross b w && has_numbers b w next

-- the decision is noted as 1, and only of an order in work that has a minimum
unfoldable pub has_decision : Book → ℕ → ℕ → Bool
has_decision b w decided = eqb decided 0 || (eqb decided 1 && ltb 0 (minimum_of (at b w)))

-- ---- the best levels

-- the heading keeps the best level of each side while nothing is in work, and zeros while an order is
unfoldable pub has_best : List ℕ → Bool
has_best t = same_bytes (part_at t best_byte best_bytes) (best_due t)

-- ---- a market

unfoldable pub is_market : List ℕ → Bool
is_market t =
    has_length t && has_settings t && has_next t && has_work t && has_kind t
    && rest_zero t && has_orders t && has_ids t && has_order_ids t && is_book (book_of t) (work_of t) (next_of t)
    && has_decision (book_of t) (work_of t) (decided_of t) && has_best t

-- it trades bonds, or equities; and it is a market that does
unfoldable pub is_of : Instrument → List ℕ → Bool
is_of q t = eqb (get_or t kind_byte 0) (kind_number q)

unfoldable pub is_market_of : Instrument → List ℕ → Bool
is_market_of q t = is_market t && is_of q t
