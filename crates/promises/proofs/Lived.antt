-- Two histories in which orders trade, so that what is promised of every history is not said of nothing: rehearsed case 3, whose orders are
-- decremented, canceled and rest too, from Open on and message by message; and one of equities, in which two sells short trade with a
-- buy. The definitions are run on all bytes: of the messages, of the table, and of the reports as they are read.
use mathlib.Core.Path.{◌≡◌, refl}
use mathlib.Core.Bool.{true}
use mathlib.Core.List.{List, [], ◌∷◌, map}
use Prim.Native.Nat.{ℕ}
use lib.ListN.{replicate}
use Rattle.octets.specs.Characters.{bytes, message}
use Rattle.octets.specs.Octets.{le_at, bytes_of, put, part_at, text_at, text_bytes, same_bytes, all_zero}
use Rattle.octets.specs.Tests.{all_up_to, first_from}
use Rattle.decimal.specs.declared.Instrument.TheVariants.{Bonds, Equities}
use Rattle.decimal.specs.Writing.{decimal, places, plain, fixed, level_text, share_of, mean_of, mean_text}
use Rattle.decimal.specs.Canonical.{bare, bare_of, exactly_of, amount_of, fixed_of, level_in, mean_in}
use Rattle.decimal.specs.Reading.{is_digit, digit_of, run_of, number_after, is_number, num_of, fraction_of, size_of, level_of, is_time_length, two_at, time_shaped, time_ranged, is_time}
use Rattle.fix.specs.Fields.{is_text as is_field_text, starts_tag, leading, tag_of, value_from, value_len, field_of, fields_after, fields_from, step_of, find_tag, value_of, has_tag, repeats, clean_fields, last_tag_or}
use Rattle.fix.specs.Garbled.{headed_by, ordered, header_right, part_of, end_of, ten_at, length_true, sum_of, check_sum, sum_true, garbled_message, body_part, head_of, frame_of}
use Rattle.request.specs.Asks.{body_of, said_in, length_in, has_in, refusal_of, terms_in, request_in, completed, agreed, body_asked, head_asked, asked_of}
use Rattle.request.specs.Session.{kind_of, one_of, belongs, listed, shape_of, char_says, look_as, judge, first_failing, first_missing, minimum_clashes, margin_clashes, first_clashing}
use Rattle.matching.specs.Matching.{is_side_of, open_of, meets, better, faces, same_owner, sum_over, count_of, choose, best, partner, prevention, meeting, ending, outcome, preventing, causes, change, happens, work_after, after, play, run, minimum_of, would_trade, misses, decided_after, opposed, opposed_to}
use Rattle.matching.specs.Held.{may_minimum}
use Rattle.matching.specs.Depth.{stands, behind, nearer, next, level_at, on_level, share, total, orders, depth}
use Rattle.table.specs.Changes.{played, misses_now, step_events, step_work, numbered, stepped, entered}
use Rattle.table.specs.Heading.{instrument_of, entries, entry_of, is_listed, mode_of, mpid_bytes}
use Rattle.table.specs.Best.{best_on, orders_bytes, levels_bytes, totals_bytes, best_row, book_row, best_due}
use Rattle.table.specs.Market.{every, is_code_character, is_padded, is_text, has_length, has_names, is_entry, has_list, has_settings, has_next, has_stamp, has_work, has_kind, rest_zero, is_capacity, is_class, is_cash, is_marked, is_record, is_ranged, is_known, is_within, is_shut, is_priced, is_order, has_orders, is_fresh_id, has_ids, is_fresh, are_fresh, has_order_ids, has_places, is_done, no_ioc, is_clear, no_cross, has_numbers, is_book, has_decision, has_best, is_market, is_of, is_market_of}
use Rattle.table.specs.Opened.{is_name, is_new, is_given, are_given, are_names, are_settings, named_table, fresh_table, is_opening, opened}
use Rattle.table.specs.Orders.{marks_at, order_at, filled, orders_from, book_of, first_record, record_with, record_for, term_bytes, amount_bytes, end_bytes, tail_bytes, field_bytes, record_of, applied, accepted}
use Rattle.calls.specs.Checks.{holder, new_stands}
use Rattle.calls.specs.Submit.{new_taken, submitted}
use Rattle.report.specs.Fields.{label, written, field_bytes as written_field}
use Rattle.report.specs.Frame.{version, front, trailer, report_bytes}
use Rattle.report.specs.Parse.{value_at, field_at, hop, place_of}
use Rattle.report.specs.declared.Reading.{Reading}
use Rattle.report.specs.Reports.{body_at, trailer_at, read_framed, execution_for, kind_for, first_of, kind_of as kind_of_report, one_reason, read_of}
use Rattle.report.specs.Shapes.{one_in, word_in, order_id_in, text_in, time_in}
use Rattle.report.specs.Slots.{accepted_slots, replaced_slots, canceled_slots, trade_slots}
use Rattle.rows.specs.Rows.{text, or_number, digit, or_digit, group, own_field, last_field, other_field, count_field, avg_px, replaced_status, trade_status, figures_of, header, accepted_fields, replaced_fields, canceled_fields, trade_fields}
use Rattle.ticket.specs.Tickets.{or_stored_at, stamp_on, shown_on, row_of, ticket_of}
use Rattle.readback.specs.Says.{says}
use Rattle.calls.specs.Told.{joined}
use Rattle.calls.specs.Run.{event_report, event_reports, step_reports, worked, ran}
use Rattle.promises.specs.History.{Call, Submit, Run, table_after, reports_after}
use Rattle.promises.specs.Whole.{record_by, open_by}
use Rattle.promises.specs.Tallies.{Account, noted, account_from, account_of, traded_for, traded, bought, sold, is_trade_of, trades_of, are_self_trade, self_trades_with, self_trades}

-- open all definitions: those that the calls compute with, and those of reports and of what is told from them
unfoldable pub computes : ℕ
unfolding le_at bytes_of put part_at text_at text_bytes same_bytes all_zero all_up_to first_from decimal places plain fixed level_text share_of mean_of mean_text bare bare_of exactly_of amount_of fixed_of level_in mean_in is_digit digit_of run_of number_after is_number num_of fraction_of size_of level_of is_time_length two_at time_shaped time_ranged is_time is_field_text starts_tag leading tag_of value_from value_len field_of fields_after fields_from step_of find_tag value_of has_tag repeats clean_fields last_tag_or headed_by ordered header_right part_of end_of ten_at length_true sum_of check_sum sum_true garbled_message body_part head_of frame_of body_of said_in length_in has_in refusal_of terms_in request_in completed agreed body_asked head_asked asked_of kind_of one_of belongs listed shape_of char_says look_as judge first_failing first_missing minimum_clashes margin_clashes first_clashing is_side_of open_of meets better faces same_owner sum_over count_of choose best partner prevention meeting ending outcome preventing causes change happens work_after after play run minimum_of would_trade misses decided_after may_minimum opposed opposed_to stands behind nearer next level_at on_level share total orders depth played misses_now step_events step_work numbered stepped entered best_on orders_bytes levels_bytes totals_bytes best_row book_row best_due instrument_of entries entry_of is_listed mode_of mpid_bytes every is_code_character is_padded is_text has_length has_names is_entry has_list has_settings has_next has_stamp has_work has_kind rest_zero is_capacity is_class is_cash is_marked is_record is_ranged is_known is_within is_shut is_priced is_order has_orders is_fresh_id has_ids is_fresh are_fresh has_order_ids has_places is_done no_ioc is_clear no_cross has_numbers is_book has_decision has_best is_market is_of is_market_of is_name is_new is_given are_given are_names are_settings named_table fresh_table is_opening opened marks_at order_at filled orders_from book_of first_record record_with record_for term_bytes amount_bytes end_bytes tail_bytes field_bytes record_of applied accepted holder new_stands new_taken submitted joined event_report event_reports step_reports worked ran table_after reports_after record_by open_by
computes = 0

unfoldable pub tells : ℕ
unfolding label written written_field version front trailer report_bytes value_at field_at hop place_of body_at trailer_at read_framed execution_for kind_for first_of kind_of_report one_reason read_of one_in word_in order_id_in text_in time_in accepted_slots replaced_slots canceled_slots trade_slots text or_number digit or_digit group own_field last_field other_field count_field avg_px replaced_status trade_status figures_of header accepted_fields replaced_fields canceled_fields trade_fields or_stored_at stamp_on shown_on row_of ticket_of says noted account_from traded_for traded is_trade_of trades_of are_self_trade self_trades_with self_trades
tells = 0

-- the first report is number 101; A is MPID 10 and has mode 3
abbrev pub before : List ℕ
before = replicate 32768 0

abbrev mpids : List ℕ
mpids = 10 ∷ 11 ∷ 12 ∷ 13 ∷ 14 ∷ []

abbrev modes : List ℕ
modes = 3 ∷ 1 ∷ 1 ∷ 1 ∷ 1 ∷ []

abbrev pub opens : List ℕ
opens = opened Bonds before (bytes "V") (bytes "P") (bytes "350") 101 mpids modes

pub opens_right : is_opening Bonds before (bytes "V") (bytes "P") (bytes "350") 101 mpids modes ≡ true
unfolding computes
opens_right = refl

-- book R: sells of 100 at 0.101 (MPID 11), and at 0.100 of 200 (12), 200 (A) and 500 (13); then A buys 1,200 at 0.100
abbrev pub sell1 : List ℕ
sell1 = message "8=FIX.4.2|9=129|35=D|34=1|49=P|52=20260105-09:00:00|56=V|11=a|21=1|38=100|40=2|44=0.101|47=A|54=2|55=350|59=0|60=20260105-09:00:00|8060=1|109=11|10=182|"

abbrev pub sell2 : List ℕ
sell2 = message "8=FIX.4.2|9=129|35=D|34=2|49=P|52=20260105-09:00:00|56=V|11=b|21=1|38=200|40=2|44=0.100|47=A|54=2|55=350|59=0|60=20260105-09:00:00|8060=1|109=12|10=185|"

abbrev pub sell3 : List ℕ
sell3 = message "8=FIX.4.2|9=129|35=D|34=3|49=P|52=20260105-09:00:00|56=V|11=c|21=1|38=200|40=2|44=0.100|47=A|54=2|55=350|59=0|60=20260105-09:00:00|8060=1|109=10|10=185|"

abbrev pub sell4 : List ℕ
sell4 = message "8=FIX.4.2|9=129|35=D|34=4|49=P|52=20260105-09:00:00|56=V|11=d|21=1|38=500|40=2|44=0.100|47=A|54=2|55=350|59=0|60=20260105-09:00:00|8060=1|109=13|10=193|"

abbrev pub buy5 : List ℕ
buy5 = message "8=FIX.4.2|9=130|35=D|34=5|49=P|52=20260105-09:00:00|56=V|11=e|21=1|38=1200|40=2|44=0.100|47=A|54=1|55=350|59=0|60=20260105-09:00:00|8060=1|109=10|10=229|"

-- each message is followed to its end, one step a call
abbrev pub lived : List Call
lived =
    Submit sell1 1024 ∷ Run 1024 1 ∷ Submit sell2 1024 ∷ Run 1024 1 ∷ Submit sell3 1024 ∷ Run 1024 1 ∷ Submit sell4 1024 ∷ Run 1024 1
    ∷ Submit buy5 1024 ∷ Run 1024 1 ∷ Run 1024 1 ∷ Run 1024 1 ∷ Run 1024 1 ∷ Run 1024 1 ∷ []

-- what reports tell of A's sell and of A's buy, which are the third and the fifth order and were accepted by the third and the fifth
-- report
abbrev accounts : List Reading → List Account
accounts rs = account_of 103 rs ∷ account_of 105 rs ∷ []

-- what is bought and what is sold, how many Trades bear the number n in 880, and how many pairs are self-trades
abbrev totals : ℕ → List Reading → List ℕ
totals n rs = bought rs ∷ sold rs ∷ trades_of n rs ∷ self_trades rs ∷ []

-- A's sell of 200 is canceled; A's buy: 1,200 = 800 + 200 + 0 + 200
pub accounts_lived : accounts (map (read_of Bonds) (reports_after Bonds opens lived))
    ≡ record { accepted = 200; executions = 0; decrements = 0; cancels = 200; left = 0 }
    ∷ record { accepted = 1200; executions = 800; decrements = 200; cancels = 0; left = 200 }
    ∷ []
unfolding computes tells
accounts_lived = refl

-- 800 are bought and sold; the sixth report and the one behind it are the two Trades of the first trade; and no trade is a self-trade
pub totals_lived : totals 106 (map (read_of Bonds) (reports_after Bonds opens lived)) ≡ 800 ∷ 800 ∷ 2 ∷ 0 ∷ []
unfolding computes tells
totals_lived = refl

-- 200 of the buy are open in the table
pub open_lived : open_by (table_after Bonds opens lived) 105 ≡ 200
unfolding computes
open_lived = refl

-- ---- equities: 15 are sold at 100.0 and 1 at 100.1, both short, by MPIDs 11 and 12; then A buys 16 at 100.1
abbrev pub opens_shares : List ℕ
opens_shares = opened Equities before (bytes "V") (bytes "P") (bytes "8411") 101 mpids modes

pub opens_shares_right : is_opening Equities before (bytes "V") (bytes "P") (bytes "8411") 101 mpids modes ≡ true
unfolding computes
opens_shares_right = refl

abbrev pub short1 : List ℕ
short1 = message "8=FIX.4.2|9=142|35=D|34=1|49=P|52=20260105-09:00:00|56=V|11=a|21=1|38=15|40=2|44=100.0|47=A|54=5|55=8411|59=0|60=20260105-09:00:00|8060=1|109=11|544=2|8214=1|10=009|"

abbrev pub short2 : List ℕ
short2 = message "8=FIX.4.2|9=141|35=D|34=2|49=P|52=20260105-09:00:00|56=V|11=b|21=1|38=1|40=2|44=100.1|47=A|54=6|55=8411|59=0|60=20260105-09:00:00|8060=1|109=12|544=3|8214=2|10=218|"

abbrev pub buy3 : List ℕ
buy3 = message "8=FIX.4.2|9=135|35=D|34=3|49=P|52=20260105-09:00:00|56=V|11=c|21=1|38=16|40=2|44=100.1|47=A|54=1|55=8411|59=0|60=20260105-09:00:00|8060=1|109=10|544=1|10=205|"

abbrev pub lived_shares : List Call
lived_shares = Submit short1 1024 ∷ Run 1024 1 ∷ Submit short2 1024 ∷ Run 1024 1 ∷ Submit buy3 1024 ∷ Run 3072 3 ∷ []

-- the totals of the reports, the account of A's buy as numbers, and of each report the side, 544 and 8214
abbrev shares_told : List Reading → List (List ℕ)
shares_told rs =
    let a = account_of 103 rs in
    totals 104 rs ∷ (a.accepted ∷ a.executions ∷ a.left ∷ []) ∷ map (says 54) rs ∷ map (says 544) rs ∷ map (says 8214) rs ∷ []

-- 16 are bought and sold, all of the buy; the fourth report and the one behind it are the two Trades of the first trade; no trade is a
-- self-trade; and the reports of each order show its side, 544 and 8214 as they were sent
pub shares_lived : shares_told (map (read_of Equities) (reports_after Equities opens_shares lived_shares))
    ≡ (16 ∷ 16 ∷ 2 ∷ 0 ∷ []) ∷ (16 ∷ 16 ∷ 0 ∷ []) ∷ (5 ∷ 6 ∷ 1 ∷ 5 ∷ 1 ∷ 6 ∷ 1 ∷ []) ∷ (2 ∷ 3 ∷ 1 ∷ 2 ∷ 1 ∷ 3 ∷ 1 ∷ [])
    ∷ (1 ∷ 2 ∷ 0 ∷ 1 ∷ 0 ∷ 2 ∷ 0 ∷ [])
    ∷ []
unfolding computes tells
shares_lived = refl

-- the AvgPx of the buy
pub mean_lived : let o = order_at (table_after Equities opens_shares lived_shares) 3 in mean_text Equities (mean_of o.sum o.executed) ≡ bytes "100.0063"
unfolding computes tells
mean_lived = refl
