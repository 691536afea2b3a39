-- Book R's table, with a buy in work, is a market; with any one clause broken it is none. So is a book of equities. By computing: the
-- definitions are run on all 32,768 bytes.
use mathlib.Core.Path.{◌≡◌, refl}
use mathlib.Core.Bool.{true, false}
use mathlib.Core.List.{◌++◌}
use Prim.Native.Nat.{ℕ}
use lib.ListN.{set}
use Rattle.octets.specs.Octets.{le_at, bytes_of, put, part_at, text_at, text_bytes, same_bytes, all_zero}
use Rattle.octets.specs.Tests.{all_up_to, first_from}
use Rattle.decimal.specs.Reading.{is_digit, digit_of, is_time, is_time_length, time_shaped, time_ranged, two_at}
use Rattle.decimal.specs.declared.Instrument.TheVariants.{Bonds, Equities}
use Rattle.matching.specs.Matching.{open_of, is_side_of, meets, opposed, opposed_to, count_of, sum_over, minimum_of}
use Rattle.matching.specs.Depth.{stands, behind, nearer, next, level_at, on_level, share, total, orders, depth}
use Rattle.matching.specs.Held.{may_minimum}
use Rattle.table.specs.Heading.{instrument_of, entries, entry_of, is_listed, mode_of, mpid_bytes, put_next, put_decided, end_work}
use Rattle.table.specs.Orders.{marks_at, order_at, filled, orders_from, book_of, term_bytes, amount_bytes, end_bytes, tail_bytes, field_bytes, record_of, accepted}
use Rattle.table.specs.Market.{every, is_code_character, is_padded, is_text, has_length, has_names, is_entry, has_list, has_settings, has_next, has_stamp, has_work, has_kind, rest_zero, is_capacity, is_class, is_cash, is_marked, is_record, is_ranged, is_known, is_within, is_shut, is_priced, is_order, has_orders, is_fresh_id, has_ids, is_fresh, are_fresh, has_order_ids, has_places, is_done, no_ioc, is_clear, no_cross, has_numbers, is_book, has_decision, has_best, is_market, is_of, is_market_of}
use Rattle.table.specs.Best.{best_on, orders_bytes, levels_bytes, totals_bytes, best_row, book_row, best_due, put_best, clear_best}
use Rattle.table.specs.Opened.{named_table, fresh_table}
use Rattle.clauses.proofs.Books.{fresh, book_r, mixed, book_least, book_kill, rested, largest, price, shares}

-- opens all definitions
computes : ℕ
unfolding le_at bytes_of put part_at text_at text_bytes same_bytes all_zero all_up_to first_from is_digit digit_of is_time is_time_length time_shaped time_ranged two_at open_of meets opposed opposed_to count_of sum_over minimum_of is_side_of may_minimum stands behind nearer next level_at on_level share total orders depth instrument_of entries entry_of is_listed mode_of mpid_bytes marks_at order_at filled orders_from book_of term_bytes amount_bytes end_bytes tail_bytes field_bytes record_of accepted every is_code_character is_padded is_text has_length has_names is_entry has_list has_settings has_next has_stamp has_work has_kind rest_zero is_capacity is_class is_cash is_marked is_record is_ranged is_known is_within is_shut is_priced is_order has_orders is_fresh_id has_ids is_fresh are_fresh has_order_ids has_places is_done no_ioc is_clear no_cross has_numbers is_book has_decision has_best is_market is_of is_market_of best_on orders_bytes levels_bytes totals_bytes best_row book_row best_due named_table fresh_table
computes = 0

-- a table just opened, and book R's
opened_is : is_market (fresh 1) ≡ true
unfolding computes
opened_is = refl

book_is : is_market (book_r 1) ≡ true
unfolding computes
book_is = refl

-- ---- the settings: a byte behind the venue, a letter in the code, an MPID twice, a mode 4
venue_padding : is_market (set (book_r 1) 3 65) ≡ false
unfolding computes
venue_padding = refl

code_letter : is_market (set (book_r 1) 19 65) ≡ false
unfolding computes
code_letter = refl

mpid_twice : is_market (set (book_r 1) 60 10) ≡ false
unfolding computes
mpid_twice = refl

mode_four : is_market (set (book_r 1) 88 4) ≡ false
unfolding computes
mode_four = refl

-- ---- the heading: a next number of 0, an order in work that is none, a 52 without one, a 52 that is no time, the kind of equities
next_zero : is_market (set (book_r 1) 28 0) ≡ false
unfolding computes
next_zero = refl

work_free : is_market (set (book_r 1) 32 6) ≡ false
unfolding computes
work_free = refl

stamp_idle : is_market (set (fresh 1) 34 50) ≡ false
unfolding computes
stamp_idle = refl

stamp_wrong : is_market (set (book_r 1) 38 57) ≡ false
unfolding computes
stamp_wrong = refl

kind_other : is_market (set (book_r 1) 55 1) ≡ false
unfolding computes
kind_other = refl

-- ---- the records: a gap, a byte behind the last one, an unused byte at the end, a CashMargin, a capacity B, sides 3 and 5, an MPID that
-- is not listed
gap : is_market (set (book_r 1) 384 0) ≡ false
unfolding computes
gap = refl

rest : is_market (set (book_r 1) 32767 1) ≡ false
unfolding computes
rest = refl

record_rest : is_market (set (book_r 1) 222 1) ≡ false
unfolding computes
record_rest = refl

cash_bond : is_market (set (book_r 1) 220 1) ≡ false
unfolding computes
cash_bond = refl

capacity_b : is_market (set (book_r 1) 174 66) ≡ false
unfolding computes
capacity_b = refl

side_three : is_market (set (book_r 1) 172 3) ≡ false
unfolding computes
side_three = refl

side_five : is_market (set (book_r 1) 172 5) ≡ false
unfolding computes
side_five = refl

mpid_unlisted : is_market (set (book_r 1) 188 15) ≡ false
unfolding computes
mpid_unlisted = refl

-- ---- the amounts: more executed than ordered, something canceled while the rest is open, a sum of nothing
too_much : is_market (put (book_r 1) 192 (bytes_of 8 101 ++ bytes_of 4 101)) ≡ false
unfolding computes
too_much = refl

half_canceled : is_market (set (book_r 1) 208 1) ≡ false
unfolding computes
half_canceled = refl

sum_of_nothing : is_market (set (book_r 1) 192 1) ≡ false
unfolding computes
sum_of_nothing = refl

-- ---- the book: a ClOrdID twice, a place twice, a place that is not yet given, an open IOC that is not in work, a buy that meets a sell
id_twice : is_market (set (book_r 1) 257 97) ≡ false
unfolding computes
id_twice = refl

place_twice : is_market (set (book_r 1) 312 1) ≡ false
unfolding computes
place_twice = refl

place_next : is_market (set (book_r 1) 696 6) ≡ false
unfolding computes
place_next = refl

ioc_resting : is_market (set (book_r 1) 173 3) ≡ false
unfolding computes
ioc_resting = refl

crossed : is_market (put_best (end_work (book_r 1))) ≡ false
unfolding computes
crossed = refl

-- ---- OrderIDs: in any order; none, one twice, one that is not yet given
orders_mixed : is_market (mixed 1) ≡ true
unfolding computes
orders_mixed = refl

order_zero : is_market (set (book_r 1) 212 0) ≡ false
unfolding computes
order_zero = refl

order_twice : is_market (set (book_r 1) 340 1) ≡ false
unfolding computes
order_twice = refl

order_next : is_market (set (book_r 1) 724 6) ≡ false
unfolding computes
order_next = refl

-- ---- the numbers: eight for four open sells and one more must fit below 1,000,000,000
numbers_fit : is_market (put_next (book_r 1) 999999991) ≡ true
unfolding computes
numbers_fit = refl

numbers_spent : is_market (put_next (book_r 1) 999999992) ≡ false
unfolding computes
numbers_spent = refl

-- ---- minimums: a MinQty as large as OrderQty, a Fill or Kill, and a decision that is made
least_is : is_market (book_least 3 1200) ≡ true
unfolding computes
least_is = refl

kill_is : is_market book_kill ≡ true
unfolding computes
kill_is = refl

decided_is : is_market (put_decided (book_least 3 800) 1) ≡ true
unfolding computes
decided_is = refl

kill_decided_is : is_market (put_decided book_kill 1) ≡ true
unfolding computes
kill_decided_is = refl

-- a MinQty above OrderQty, on a Day order, on a Fill or Kill; a time in force 1; an open Fill or Kill that is not in work
minimum_above : is_market (book_least 3 1201) ≡ false
unfolding computes
minimum_above = refl

minimum_day : is_market (set (book_r 1) 728 1) ≡ false
unfolding computes
minimum_day = refl

minimum_kill : is_market (set book_kill 728 1) ≡ false
unfolding computes
minimum_kill = refl

tif_one : is_market (set (book_r 1) 173 1) ≡ false
unfolding computes
tif_one = refl

kill_resting : is_market (set (book_r 1) 173 4) ≡ false
unfolding computes
kill_resting = refl

-- a decision with nothing in work, on an order that has no minimum, and a decision 2
decided_idle : is_market (set (fresh 1) 96 1) ≡ false
unfolding computes
decided_idle = refl

decided_none : is_market (set (book_r 1) 96 1) ≡ false
unfolding computes
decided_none = refl

decision_two : is_market (set (book_least 3 800) 96 2) ≡ false
unfolding computes
decision_two = refl

-- ---- the best levels: those of the book while nothing is in work, a total of any size
rested_is : is_market rested ≡ true
unfolding computes
rested_is = refl

largest_is : is_market largest ≡ true
unfolding computes
largest_is = refl

-- a total that is one less, one sell too many, a level of the other side, a total kept in 32 bits, unused bytes among them, none told
best_total : is_market (set rested 120 99) ≡ false
unfolding computes
best_total = refl

best_orders : is_market (set rested 98 2) ≡ false
unfolding computes
best_orders = refl

best_level : is_market (set rested 104 102) ≡ false
unfolding computes
best_level = refl

best_short : is_market (set largest 116 0) ≡ false
unfolding computes
best_short = refl

best_unused : is_market (set rested 99 1) ≡ false
unfolding computes
best_unused = refl

best_between : is_market (set rested 111 1) ≡ false
unfolding computes
best_between = refl

best_none : is_market (clear_best rested) ≡ false
unfolding computes
best_none = refl

-- zeros while an order is in work: all of them told, one number of orders, the last byte
busy_told : is_market (put_best (book_r 1)) ≡ false
unfolding computes
busy_told = refl

busy_orders : is_market (set (book_r 1) 97 1) ≡ false
unfolding computes
busy_orders = refl

busy_last : is_market (set (book_r 1) 127 1) ≡ false
unfolding computes
busy_last = refl

-- ---- equities: a book of them is a market of equities and none of bonds, and a bond book the other way round
shares_is : is_market_of Equities shares ≡ true
unfolding computes
shares_is = refl

shares_bonds : is_market_of Bonds shares ≡ false
unfolding computes
shares_bonds = refl

bonds_shares : is_market_of Equities (book_r 1) ≡ false
unfolding computes
bonds_shares = refl

-- a kind 2, a space in the symbol, a side 3
kind_two : is_market (set shares 55 2) ≡ false
unfolding computes
kind_two = refl

symbol_space : is_market (set shares 20 32) ≡ false
unfolding computes
symbol_space = refl

share_side : is_market (set shares 172 3) ≡ false
unfolding computes
share_side = refl

-- a price of zero is one, and a level above it is none; a sum likewise
price_zero : is_market (put shares 176 (bytes_of 4 (price 0))) ≡ true
unfolding computes
price_zero = refl

price_below : is_market (put shares 176 (bytes_of 4 1000000001)) ≡ false
unfolding computes
price_below = refl

sum_zero : is_market (put shares 192 (bytes_of 8 1000000000 ++ bytes_of 4 1)) ≡ true
unfolding computes
sum_zero = refl

sum_below : is_market (put shares 192 (bytes_of 8 1000000001 ++ bytes_of 4 1)) ≡ false
unfolding computes
sum_below = refl

-- no CashMargin, a CashMargin 4, a MarginCode 3, a MarginCode where CashMargin is 1
cash_none : is_market (put shares 220 (bytes_of 2 0)) ≡ false
unfolding computes
cash_none = refl

cash_four : is_market (set shares 220 4) ≡ false
unfolding computes
cash_four = refl

margin_three : is_market (set shares 221 3) ≡ false
unfolding computes
margin_three = refl

margin_cash : is_market (set shares 220 1) ≡ false
unfolding computes
margin_cash = refl
