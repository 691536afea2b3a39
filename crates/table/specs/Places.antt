-- The byte places of the table (document 01, "The table and its calls": the team fixes them): 256 records of 128 bytes,
-- record 0 the heading, records 1 to 255 the orders. A number is little endian; a text is a length byte and room for its
-- characters. docs/TABLE.md has the same as a table, with the range of each. Assumes nothing.
use Rattle.std.specs.Prelude.{ℕ, ◌*◌}

-- ---- the whole

-- bytes of a table, bytes of a record, and the most orders that a table holds
abbrev pub table_bytes : ℕ
table_bytes = 32768

abbrev pub record_bytes : ℕ
record_bytes = 128

abbrev pub most_orders : ℕ
most_orders = 255

-- the first byte of record i
abbrev pub record_at : ℕ → ℕ
record_at i = 128 * i

-- ---- the heading: bytes from the start of the table

-- venue id and port id, a length byte and room for 8 characters each
abbrev pub venue_byte : ℕ
venue_byte = 0

abbrev pub port_byte : ℕ
port_byte = 9

abbrev pub id_room : ℕ
id_room = 8

-- the code of the bond or the symbol of the share, a length byte and room for 9 characters
abbrev pub code_byte : ℕ
code_byte = 18

abbrev pub code_room : ℕ
code_room = 9

-- the next report number, 4 bytes
abbrev pub next_byte : ℕ
next_byte = 28

-- the order in work, 1 byte, 0 for none; behind it the 52 of its message, a length byte and room for 21 characters
abbrev pub work_byte : ℕ
work_byte = 32

abbrev pub stamp_byte : ℕ
stamp_byte = 33

abbrev pub stamp_room : ℕ
stamp_room = 21

-- what the market trades, 1 byte: 0 bonds, 1 equities (document 02, T-08)
abbrev pub kind_byte : ℕ
kind_byte = 55

-- the MPIDs, 4 bytes each, and their modes, 1 byte each: 8 of both, the unused ones zero
abbrev pub mpids_byte : ℕ
mpids_byte = 56

abbrev pub modes_byte : ℕ
modes_byte = 88

abbrev pub most_mpids : ℕ
most_mpids = 8

-- the decision on the minimum of the order in work, 1 byte: 0, or 1 once it is made
abbrev pub decided_byte : ℕ
decided_byte = 96

-- the best level of each side, 31 bytes up to the end of the heading (document 02, T-06): the numbers of orders of the best buy and
-- of the best sell level, 1 byte each, and an unused byte; the two levels, 4 bytes each, and four unused bytes; the two totals, 8
-- bytes each
abbrev pub best_byte : ℕ
best_byte = 97

abbrev pub best_bytes : ℕ
best_bytes = 31

abbrev pub buy_orders_byte : ℕ
buy_orders_byte = 97

abbrev pub sell_orders_byte : ℕ
sell_orders_byte = 98

abbrev pub orders_spare_byte : ℕ
orders_spare_byte = 99

abbrev pub buy_level_byte : ℕ
buy_level_byte = 100

abbrev pub sell_level_byte : ℕ
sell_level_byte = 104

abbrev pub levels_spare_byte : ℕ
levels_spare_byte = 108

abbrev pub buy_total_byte : ℕ
buy_total_byte = 112

abbrev pub sell_total_byte : ℕ
sell_total_byte = 120

-- ---- an order: bytes from the start of its record

-- the ClOrdID stands at the start, a length byte and room for 32 characters: a record is filled if its first byte is not 0
abbrev pub cl_ord_id_room : ℕ
cl_ord_id_room = 32

-- the account, a length byte (0 for none) and room for 10 characters
abbrev pub account_byte : ℕ
account_byte = 33

abbrev pub account_room : ℕ
account_room = 10

-- side, time in force, capacity and classification, 1 byte each
abbrev pub side_byte : ℕ
side_byte = 44

abbrev pub tif_byte : ℕ
tif_byte = 45

abbrev pub capacity_byte : ℕ
capacity_byte = 46

abbrev pub class_byte : ℕ
class_byte = 47

-- the terms that a replacement sets, 4 bytes each: level, OrderQty, place
abbrev pub level_byte : ℕ
level_byte = 48

abbrev pub qty_byte : ℕ
qty_byte = 52

abbrev pub place_byte : ℕ
place_byte = 56

-- the MPID, 4 bytes, 0 for none
abbrev pub mpid_byte : ℕ
mpid_byte = 60

-- the amounts that matching changes: the sum of quantity times level, 8 bytes; executed, decremented and canceled, 4 bytes each
abbrev pub sum_byte : ℕ
sum_byte = 64

abbrev pub executed_byte : ℕ
executed_byte = 72

abbrev pub decremented_byte : ℕ
decremented_byte = 76

abbrev pub canceled_byte : ℕ
canceled_byte = 80

-- the OrderID, 4 bytes: the number of the report that accepted the order (document 02, T-09)
abbrev pub order_id_byte : ℕ
order_id_byte = 84

-- MinQty as it was sent, 4 bytes, 0 for none
abbrev pub min_qty_byte : ℕ
min_qty_byte = 88

-- CashMargin and MarginTransactionType as they were sent, 1 byte each, 0 for none (document 02, T-08)
abbrev pub cash_byte : ℕ
cash_byte = 92

abbrev pub margin_byte : ℕ
margin_byte = 93

-- the first of the unused bytes up to the end of the record, and how many they are
abbrev pub record_end : ℕ
record_end = 94

abbrev pub record_spare : ℕ
record_spare = 34
