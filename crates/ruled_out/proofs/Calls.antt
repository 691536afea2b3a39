-- What the calls on a table do not answer or leave: each wrong answer that docs/PROMISES.md names, on a table and a message that would
-- tell it apart. The definitions are run on all bytes of both.
use mathlib.Core.Path.{◌≡◌, refl}
use mathlib.Core.List.{List, [], ◌∷◌, map}
use Prim.Native.Nat.{ℕ, ◌+◌}
use lib.ListN.{length, replicate}
use Rattle.octets.specs.Octets.{le_at, bytes_of, put, part_at, text_at, text_bytes, same_bytes, all_zero}
use Rattle.octets.specs.Tests.{all_up_to, first_from}
use Rattle.decimal.specs.Writing.{decimal, places, plain, fixed, level_text, mean_text, share_of, mean_of}
use Rattle.decimal.specs.Reading.{is_digit, digit_of, run_of, number_after, is_number, num_of, fraction_of, size_of, level_of, is_time_length, two_at, time_shaped, time_ranged, is_time}
use Rattle.fix.specs.Fields.{is_text, starts_tag, leading, tag_of, value_from, value_len, field_of, fields_after, fields_from, step_of, find_tag, value_of, has_tag, repeats, clean_fields, last_tag_or}
use Rattle.fix.specs.Garbled.{headed_by, ordered, header_right, part_of, end_of, ten_at, length_true, sum_of, check_sum, sum_true, garbled_message, body_part, head_of, frame_of}
use Rattle.request.specs.Asks.{body_of, said_in, length_in, has_in, refusal_of, terms_in, request_in, completed, agreed, body_asked, head_asked, asked_of}
use Rattle.request.specs.Session.{kind_of, one_of, belongs, listed, shape_of, char_says, look_as, judge, first_failing, first_missing, minimum_clashes, margin_clashes, first_clashing}
use Rattle.matching.specs.Matching.{open_of, is_side_of, meets, better, faces, same_owner, sum_over, count_of, choose, best, partner, prevention, meeting, ending, outcome, preventing, causes, place_after, change, happens, work_after, after, play, run, minimum_of, would_trade, misses, decided_after, opposed, opposed_to, Book}
use Rattle.matching.specs.Depth.{stands, behind, nearer, next, level_at, on_level, share, total, orders, depth}
use Rattle.matching.specs.Held.{may_minimum}
use Rattle.table.specs.Changes.{played, misses_now, step_events, step_work, numbered, stepped, entered, renewed, taken}
use Rattle.table.specs.Heading.{instrument_of, entries, entry_of, is_listed, mode_of, mpid_bytes, next_of, decided_of, put_next, end_work}
use Rattle.table.specs.Market.{every, is_code_character, is_padded, has_length, has_names, is_entry, has_list, has_settings, has_next, has_stamp, has_work, has_kind, rest_zero, is_capacity, is_class, is_cash, is_marked, is_record, is_ranged, is_known, is_within, is_shut, is_priced, is_order, has_orders, is_fresh_id, has_ids, is_fresh, are_fresh, has_order_ids, has_places, is_done, no_ioc, is_clear, no_cross, has_numbers, is_book, has_decision, has_best, is_market, is_of, is_market_of, is_text as is_stored_text}
use Rattle.table.specs.Best.{best_on, orders_bytes, levels_bytes, totals_bytes, best_row, book_row, best_due, put_best}
use Rattle.table.specs.Opened.{is_name, is_new, is_given, are_given, are_names, are_settings, named_table, fresh_table, is_opening, opened, open_answer}
use Rattle.table.specs.Orders.{order_id_at, marks_at, order_at, filled, orders_from, book_of, first_record, record_with, record_for, term_bytes, amount_bytes, end_bytes, tail_bytes, record_of, applied, withdrawn, replaced, accepted, field_bytes}
use Rattle.calls.specs.Checks.{holder, new_stands, change_stands, cancel_stands, replace_stands}
use Rattle.calls.specs.Submit.{rejecting, faulted, new_rejected, change_rejected, new_taken, replacement_taken, cancel_taken, submitted, Submitted, submit_number, submit_length}
use Rattle.calls.specs.Run.{event_report, event_reports, step_reports, worked, ran, Ran, run_bytes, run_reports, run_steps}
use Rattle.calls.specs.Told.{joined}
use Rattle.report.specs.Fields.{label, written, field_bytes as written_field}
use Rattle.report.specs.Frame.{version, front, trailer, report_bytes}
use Rattle.rows.specs.Rows.{text, or_number, digit, or_digit, or_nobody, group, own_field, last_field, other_field, count_field, avg_px, replaced_status, trade_status, status_of, figures_of, header, accepted_fields, replaced_fields, canceled_fields, trade_fields, cancel_reject_row}
use Rattle.ticket.specs.Tickets.{or_stored_at, stamp_on, shown_on, row_of, ticket_of, unchanged_on, unchanged_row}
use Rattle.std.specs.Prelude.{Result}
use Rattle.refusals.specs.declared.Refusal.{Refusal}
use Rattle.refusals.specs.Refusals.{answer_number}
use Rattle.calls.specs.declared.Progress.{Progress}
use Rattle.decimal.specs.declared.Instrument.TheVariants.{Bonds, Equities}
use Rattle.std.specs.Prelude.{Some}
use Rattle.kamurjesh.specs.Numbers.{signed_of, quote_of}
use lib.IntN.{pos}
use Rattle.market.specs.Depth.{depth_answer, depth_number}
use Rattle.octets.specs.Characters.{message}
use Rattle.clauses.proofs.Books.{fresh, book_r, book_least, book_kill, full, left, over, price, fresh_shares, shares}

-- opens all definitions that a call on a table comes to
pub computes : ℕ
unfolding le_at bytes_of put part_at text_at text_bytes same_bytes all_zero all_up_to first_from decimal places plain fixed level_text mean_text share_of mean_of is_digit digit_of run_of number_after is_number num_of fraction_of size_of level_of is_time_length two_at time_shaped time_ranged is_time is_text starts_tag leading tag_of value_from value_len field_of fields_after fields_from step_of find_tag value_of has_tag repeats clean_fields last_tag_or headed_by ordered header_right part_of end_of ten_at length_true sum_of check_sum sum_true garbled_message body_part head_of frame_of body_of said_in length_in has_in refusal_of terms_in request_in completed agreed body_asked head_asked asked_of kind_of one_of belongs listed shape_of char_says look_as judge first_failing first_missing minimum_clashes margin_clashes first_clashing open_of is_side_of meets better faces same_owner sum_over count_of choose best partner prevention meeting ending outcome preventing causes place_after change happens work_after after play run minimum_of would_trade misses decided_after may_minimum opposed opposed_to stands behind nearer next level_at on_level share total orders depth played misses_now step_events step_work numbered stepped entered renewed taken instrument_of entries entry_of is_listed mode_of mpid_bytes every is_code_character is_padded has_length has_names is_entry has_list has_settings has_next has_stamp has_work has_kind rest_zero is_capacity is_class is_cash is_marked is_record is_ranged is_known is_within is_shut is_priced is_order has_orders is_fresh_id has_ids is_fresh are_fresh has_order_ids has_places is_done no_ioc is_clear no_cross has_numbers is_book has_decision has_best is_market is_of is_market_of best_on orders_bytes levels_bytes totals_bytes best_row book_row best_due is_stored_text is_name is_new is_given are_given are_names are_settings named_table fresh_table is_opening opened marks_at order_at filled orders_from book_of first_record record_with record_for term_bytes amount_bytes end_bytes tail_bytes record_of applied withdrawn replaced accepted field_bytes holder new_stands change_stands cancel_stands replace_stands rejecting faulted new_rejected change_rejected new_taken replacement_taken cancel_taken submitted event_report event_reports step_reports worked ran joined label written written_field version front trailer report_bytes text or_number digit or_digit or_nobody group own_field last_field other_field count_field avg_px replaced_status trade_status status_of figures_of header accepted_fields replaced_fields canceled_fields trade_fields cancel_reject_row or_stored_at stamp_on shown_on row_of ticket_of unchanged_on unchanged_row open_answer depth_answer
computes = 0

-- ---- Open

-- bytes of no market
abbrev sevens : List ℕ
sevens = replicate 32768 7

-- there is no mode 4
mode_four : answer_number (open_answer Bonds sevens (message "V") (message "P") (message "350") 1 (10 ∷ []) (4 ∷ [])) ≡ 9
unfolding computes
mode_four = refl

-- a refusal leaves every byte
nothing_opened : opened Bonds sevens (message "V") (message "P") (message "350") 1 (10 ∷ []) (4 ∷ []) ≡ sevens
unfolding computes
nothing_opened = refl

-- ---- Submit: a buy of 100 at 0.100 to a market just opened

abbrev buy : List ℕ
buy = message "8=FIX.4.2|9=122|35=D|34=1|49=P|52=20260105-09:00:00|56=V|11=a|21=1|38=100|40=2|44=0.100|47=A|54=1|55=350|59=0|60=20260105-09:00:00|8060=1|10=115|"

-- it is taken, one report is written, and the next number goes up by one
abbrev after_buy : Submitted → List ℕ
after_buy s = submit_number s.answer ∷ length s.reports ∷ next_of s.table ∷ []

buy_taken : after_buy (submitted Bonds (fresh 1) buy 1024) ≡ 0 ∷ 1 ∷ 2 ∷ []
unfolding computes
buy_taken = refl

-- a garbled message has no report
untold : (submitted Bonds (fresh 1) (message "x") 1024).reports ≡ []
unfolding computes
untold = refl

-- an order's MinQty is stored, of 0007 the number
minimum_stored : (order_at (submitted Bonds (fresh 1) (message "8=FIX.4.2|9=132|35=D|34=1|49=P|52=20260101-09:00:00|56=V|11=A1|21=1|38=100|40=2|44=0.101|47=A|54=2|55=350|59=3|60=20260101-09:00:00|110=0007|8060=1|10=025|") 1024).table 1).minqty ≡ 7
unfolding computes
minimum_stored = refl

-- ---- Submit: the record that a new order takes, and its OrderID

-- of a full table, in which 2 and 4 have nothing open, the lowest-numbered of them
lowest_dead : record_for full ≡ 2
unfolding computes
lowest_dead = refl

-- the ClOrdID that stands there is in the table until then, and not after
held_until : holder full (message "y") ≡ 2
unfolding computes
held_until = refl

gone_after : holder (over left) (message "OLD-1") ≡ 0
unfolding computes
gone_after = refl

-- while a record is not filled, the next one, 6, although 1, 2 and 5 have nothing open
free_first : record_for (ran Bonds (book_r 1) 262144 256).table ≡ 6
unfolding computes
free_first = refl

-- nothing is left of the order that was there, no account and no MinQty: every byte is as if there had been none
written_anew : over left ≡ over (fresh 1)
unfolding computes
written_anew = refl

-- the OrderID is the number of the report, 7, and not of the record
own_number : order_id_at (submitted Bonds (put_next (fresh 1) 7) buy 1024).table 1 ≡ 7
unfolding computes
own_number = refl

-- ---- Submit, while the buy rests

abbrev rests : List ℕ
rests = put_best (end_work (submitted Bonds (fresh 1) buy 1024).table)

abbrev cancel : List ℕ
cancel = message "8=FIX.4.2|9=84|35=F|34=2|49=P|52=20260105-09:00:00|56=V|11=b|41=a|54=1|55=350|60=20260105-09:00:00|10=218|"

-- a cancel leaves nothing open
canceled : open_of (order_at (submitted Bonds rests cancel 1024).table 1) ≡ 0
unfolding computes
canceled = refl

-- a replacement at another yield takes the place of its report, which is number 2
new_place : (order_at (submitted Bonds rests (message "8=FIX.4.2|9=110|35=G|34=2|49=P|52=20260105-09:00:00|56=V|11=b|21=1|38=100|40=2|41=a|44=0.101|54=1|55=350|60=20260105-09:00:00|10=119|") 1024).table 1).place ≡ 2
unfolding computes
new_place = refl

-- where no order has 41, the length of the Cancel reject is given
reject_length : submit_length (submitted Bonds rests (message "8=FIX.4.2|9=84|35=F|34=2|49=P|52=20260105-09:00:00|56=V|11=b|41=z|54=1|55=350|60=20260105-09:00:00|10=243|") 1024).answer ≡ 106
unfolding computes
reject_length = refl

-- ---- Run: A's buy against book R, in mode 1: trades of 100 and 200, then 900 are canceled, in four steps

-- four steps, each counted, with five reports; what rests behind A's own sell stays
abbrev after_run : Ran → List ℕ
after_run r = run_steps r.answer ∷ run_reports r.answer ∷ map open_of (book_of r.table)

newest_stops : after_run (ran Bonds (book_r 1) 262144 256) ≡ 4 ∷ 5 ∷ 0 ∷ 0 ∷ 200 ∷ 500 ∷ 0 ∷ []
unfolding computes
newest_stops = refl

-- a budget of one is one step, with the two reports of its trade, 508 bytes; a second step is not taken with 1,023 bytes free
abbrev figures : Result Progress Refusal → List ℕ
figures a = run_bytes a ∷ run_reports a ∷ run_steps a ∷ []

one_step : figures (ran Bonds (book_r 1) 262144 1).answer ≡ 508 ∷ 2 ∷ 1 ∷ []
unfolding computes
one_step = refl

no_room : figures (ran Bonds (book_r 1) (508 + 1023) 256).answer ≡ 508 ∷ 2 ∷ 1 ∷ []
unfolding computes
no_room = refl

-- ---- Run: minimums. A's buy is IOC; in mode 3 it would trade 800, and MPID 14's Fill or Kill 1,000

-- a minimum of 800 is reached: 800 trade and the rest expires
least_reached : after_run (ran Bonds (book_least 3 800) 262144 256) ≡ 5 ∷ 9 ∷ 0 ∷ 0 ∷ 0 ∷ 0 ∷ 0 ∷ []
unfolding computes
least_reached = refl

-- it is decided in the first step: when two are taken 500 are left to trade, and the next call goes on
decided_before : after_run (ran Bonds (ran Bonds (book_least 3 800) 262144 2).table 262144 256) ≡ 3 ∷ 5 ∷ 0 ∷ 0 ∷ 0 ∷ 0 ∷ 0 ∷ []
unfolding computes
decided_before = refl

-- one more is not: one step and one report, and what rests stays, A's own sell too
least_missed : after_run (ran Bonds (book_least 3 801) 262144 256) ≡ 1 ∷ 1 ∷ 100 ∷ 200 ∷ 200 ∷ 500 ∷ 0 ∷ []
unfolding computes
least_missed = refl

-- 1,200 Fill or Kill are not either
kill_missed : after_run (ran Bonds book_kill 262144 256) ≡ 1 ∷ 1 ∷ 100 ∷ 200 ∷ 200 ∷ 500 ∷ 0 ∷ []
unfolding computes
kill_missed = refl

-- the heading notes the decision from the first step on, and nothing when the work is ended or the order has no minimum
decision_noted : map decided_of (book_least 3 800 ∷ (ran Bonds (book_least 3 800) 262144 1).table ∷ (ran Bonds (book_least 3 800) 262144 256).table ∷ (ran Bonds (book_r 3) 262144 1).table ∷ []) ≡ 0 ∷ 1 ∷ 0 ∷ 0 ∷ []
unfolding computes
decision_noted = refl

-- ---- Depth

-- no answer while an order is in work
in_work : depth_number (depth_answer Bonds (book_r 1) 2 0) ≡ 3
unfolding computes
in_work = refl

-- the best sell is the highest yield, and behind it comes another level
abbrev levels : Book → List ℕ
levels b = level_at b 2 0 ∷ next b 2 1000000101 5 ∷ []

best_first : levels (book_of (book_r 1)) ≡ 1000000101 ∷ 1000000100 ∷ []
unfolding computes
best_first = refl

-- an order with nothing open is not counted: when two steps are taken, one of the three sells at 0.100 has traded
dead_uncounted : orders (book_of (ran Bonds (book_r 1) 262144 2).table) 2 1000000100 ≡ 2
unfolding computes
dead_uncounted = refl

-- the level of the yield 0.100 is shown to C as 100 thousandths, that of the price 100.1 as 1,001 tenths
yield_shown : quote_of Bonds (Some (record { level = 1000000100; total = 700; orders = 2 })) ≡ pos 100
unfolding signed_of quote_of
yield_shown = refl

price_shown : quote_of Equities (Some (record { level = 999998999; total = 700; orders = 2 })) ≡ pos 1001
unfolding signed_of quote_of
price_shown = refl

-- ---- equities

-- a call for bonds is refused on a table of equities, and the other way round
submit_other : submit_number (submitted Bonds fresh_shares buy 1024).answer ≡ 2
unfolding computes
submit_other = refl

run_other : answer_number (ran Bonds fresh_shares 262144 256).answer ≡ 2
unfolding computes
run_other = refl

depth_other : depth_number (depth_answer Bonds fresh_shares 1 0) ≡ 2
unfolding computes
depth_other = refl

bonds_other : answer_number (ran Equities (fresh 1) 262144 256).answer ≡ 2
unfolding computes
bonds_other = refl

-- 5 and 6 sell: the buy trades with the short, the exempt and the other sell, all of them
all_sell : after_run (ran Equities shares 262144 256) ≡ 4 ∷ 6 ∷ 0 ∷ 0 ∷ 0 ∷ 0 ∷ []
unfolding computes
all_sell = refl

-- the best sell is the lowest price, whichever of them sells: 100.0, and behind it 100.1
lowest_first : map (λ k. level_at (book_of shares) 2 k) (0 ∷ 1 ∷ 2 ∷ []) ≡ price 1000 ∷ price 1001 ∷ 0 ∷ []
unfolding computes
lowest_first = refl
