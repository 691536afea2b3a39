-- What a report is not read as, and what the reports of the market do not say: each wrong answer that docs/PROMISES.md names, on a
-- report that would tell it apart.
use mathlib.Core.Path.{◌≡◌, refl}
use mathlib.Core.List.{List, [], ◌∷◌}
use Prim.Native.Nat.{ℕ, zero, suc}
use Rattle.octets.specs.Octets.{le_at, bytes_of, put, part_at, text_at, text_bytes, same_bytes, all_zero}
use Rattle.octets.specs.Tests.{all_up_to, first_from}
use Rattle.decimal.specs.Writing.{decimal, places, plain, fixed, level_text, mean_text, share_of, mean_of}
use Rattle.decimal.specs.declared.Instrument.TheVariants.{Bonds, Equities}
use Rattle.decimal.specs.Canonical.{bare, bare_of, exactly_of, amount_of, fixed_of, level_in, mean_in}
use Rattle.decimal.specs.Reading.{is_digit, digit_of, run_of, number_after, is_number, num_of, fraction_of, size_of, level_of, is_time_length, two_at, time_shaped, time_ranged, is_time}
use Rattle.fix.specs.Fields.{is_text, starts_tag, leading, tag_of, value_from, value_len, field_of, fields_after, fields_from, step_of, find_tag, value_of, has_tag, repeats, clean_fields, last_tag_or}
use Rattle.fix.specs.Garbled.{headed_by, ordered, header_right, part_of, end_of, ten_at, length_true, sum_of, check_sum, sum_true, garbled_message, body_part, head_of, frame_of}
use Rattle.request.specs.Asks.{body_of, said_in, length_in, has_in, refusal_of, terms_in, request_in, completed, agreed, body_asked, head_asked, asked_of}
use Rattle.request.specs.Session.{kind_of, one_of, belongs, listed, shape_of, char_says, look_as, judge, first_failing, first_missing, minimum_clashes, margin_clashes, first_clashing}
use Rattle.matching.specs.Matching.{open_of, is_side_of, meets, better, faces, same_owner, sum_over, count_of, choose, best, partner, prevention, meeting, ending, outcome, preventing, causes, change, happens, work_after, after, play, run, minimum_of, would_trade, misses, decided_after, opposed, opposed_to}
use Rattle.matching.specs.Depth.{stands, behind, nearer, next, level_at, on_level, share, total, orders, depth}
use Rattle.matching.specs.Held.{may_minimum}
use Rattle.table.specs.Changes.{played, misses_now, step_events, step_work, numbered, stepped, entered, renewed, taken}
use Rattle.table.specs.Heading.{instrument_of, entries, entry_of, is_listed, mode_of, mpid_bytes, put_next, end_work}
use Rattle.table.specs.Market.{every, is_code_character, is_padded, has_length, has_names, is_entry, has_list, has_settings, has_next, has_stamp, has_work, has_kind, rest_zero, is_capacity, is_class, is_cash, is_marked, is_record, is_ranged, is_known, is_within, is_shut, is_priced, is_order, has_orders, is_fresh_id, has_ids, is_fresh, are_fresh, has_order_ids, has_places, is_done, no_ioc, is_clear, no_cross, has_numbers, is_book, has_decision, has_best, is_market, is_of, is_market_of, is_text as is_stored_text}
use Rattle.table.specs.Best.{best_on, orders_bytes, levels_bytes, totals_bytes, best_row, book_row, best_due, put_best}
use Rattle.table.specs.Opened.{is_name, is_new, is_given, are_given, are_names, are_settings, named_table, fresh_table, is_opening, opened}
use Rattle.table.specs.Orders.{marks_at, order_at, filled, orders_from, book_of, first_record, record_with, record_for, term_bytes, amount_bytes, end_bytes, tail_bytes, record_of, applied, withdrawn, replaced, accepted, field_bytes}
use Rattle.calls.specs.Checks.{holder, new_stands, change_stands, cancel_stands, replace_stands}
use Rattle.calls.specs.Submit.{rejecting, faulted, new_rejected, change_rejected, new_taken, replacement_taken, cancel_taken, submitted, Submitted}
use Rattle.calls.specs.Run.{event_report, event_reports, step_reports, worked, ran}
use Rattle.calls.specs.Told.{joined}
use Rattle.report.specs.Fields.{label, written, field_bytes as written_field}
use Rattle.report.specs.Frame.{version, front, trailer, report_bytes}
use Rattle.report.specs.Parse.{value_at, field_at, hop, place_of}
use Rattle.report.specs.Reports.{body_at, trailer_at, read_framed, execution_for, kind_for, first_of, one_reason, read_of, kind_of as kind_of_report, part_of as place_of_tag}
use Rattle.report.specs.Shapes.{one_in, word_in, order_id_in, text_in, time_in}
use Rattle.report.specs.Slots.{accepted_slots, replaced_slots, canceled_slots, trade_slots, cancel_reject_slots}
use Rattle.rows.specs.Rows.{text, or_number, digit, or_digit, or_nobody, group, own_field, last_field, other_field, count_field, avg_px, replaced_status, trade_status, status_of, figures_of, header, accepted_fields, replaced_fields, canceled_fields, trade_fields, cancel_reject_row}
use Rattle.ticket.specs.Tickets.{or_stored_at, stamp_on, shown_on, row_of, ticket_of, unchanged_on, unchanged_row}
use Rattle.readback.specs.Says.{says}
use Rattle.std.proofs.Common.{None}
use Rattle.calls.specs.Read.{read_number}
use Rattle.octets.specs.Characters.{message}
use Rattle.clauses.proofs.Books.{fresh, book_r, mixed, book_least, book_kill, shares}

-- opens all definitions
computes : ℕ
unfolding le_at bytes_of put part_at text_at text_bytes same_bytes all_zero all_up_to first_from decimal places plain fixed level_text mean_text share_of mean_of bare bare_of exactly_of amount_of fixed_of level_in mean_in is_digit digit_of run_of number_after is_number num_of fraction_of size_of level_of is_time_length two_at time_shaped time_ranged is_time is_text starts_tag leading tag_of value_from value_len field_of fields_after fields_from step_of find_tag value_of has_tag repeats clean_fields last_tag_or headed_by ordered header_right part_of end_of ten_at length_true sum_of check_sum sum_true garbled_message body_part head_of frame_of body_of said_in length_in has_in refusal_of terms_in request_in completed agreed body_asked head_asked asked_of kind_of one_of belongs listed shape_of char_says look_as judge first_failing first_missing minimum_clashes margin_clashes first_clashing open_of is_side_of meets better faces same_owner sum_over count_of choose best partner prevention meeting ending outcome preventing causes change happens work_after after play run minimum_of would_trade misses decided_after may_minimum opposed opposed_to stands behind nearer next level_at on_level share total orders depth played misses_now step_events step_work numbered stepped entered renewed taken instrument_of entries entry_of is_listed mode_of mpid_bytes every is_code_character is_padded has_length has_names is_entry has_list has_settings has_next has_stamp has_work has_kind rest_zero is_capacity is_class is_cash is_marked is_record is_ranged is_known is_within is_shut is_priced is_order has_orders is_fresh_id has_ids is_fresh are_fresh has_order_ids has_places is_done no_ioc is_clear no_cross has_numbers is_book has_decision has_best is_market is_of is_market_of best_on orders_bytes levels_bytes totals_bytes best_row book_row best_due is_stored_text is_name is_new is_given are_given are_names are_settings named_table fresh_table is_opening opened marks_at order_at filled orders_from book_of first_record record_with record_for term_bytes amount_bytes end_bytes tail_bytes record_of applied withdrawn replaced accepted field_bytes holder new_stands change_stands cancel_stands replace_stands rejecting faulted new_rejected change_rejected new_taken replacement_taken cancel_taken submitted event_report event_reports step_reports worked ran joined label written written_field version front trailer report_bytes value_at field_at hop place_of body_at trailer_at read_framed execution_for kind_for first_of one_reason read_of kind_of_report place_of_tag one_in word_in order_id_in text_in time_in accepted_slots replaced_slots canceled_slots trade_slots cancel_reject_slots text or_number digit or_digit or_nobody group own_field last_field other_field count_field avg_px replaced_status trade_status status_of figures_of header accepted_fields replaced_fields canceled_fields trade_fields cancel_reject_row or_stored_at stamp_on shown_on row_of ticket_of unchanged_on unchanged_row says
computes = 0

-- ---- Read

-- an Accepted
whole : read_number (read_of Bonds (message "8=FIX.4.2|9=202|35=8|34=1|49=V|50=DJGB|52=20260105-09:00:02|56=P|1=ACC-1|6=0.000000|11=BUY-1|14=0|17=1|20=0|37=7|38=1200|39=0|40=2|44=0.100|47=A|54=1|55=350|59=0|60=20260105-09:00:02|109=10|150=0|151=1200|423=9|8060=1|10=015|")).kind ≡ 0
unfolding computes
whole = refl

-- 37 has one to nine digits, whatever the number of records, and is not 0
nine_digits : read_number (read_of Bonds (message "8=FIX.4.2|9=210|35=8|34=1|49=V|50=DJGB|52=20260105-09:00:02|56=P|1=ACC-1|6=0.000000|11=BUY-1|14=0|17=1|20=0|37=999999999|38=1200|39=0|40=2|44=0.100|47=A|54=1|55=350|59=0|60=20260105-09:00:02|109=10|150=0|151=1200|423=9|8060=1|10=216|")).kind ≡ 0
unfolding computes
nine_digits = refl

ten_digits : read_number (read_of Bonds (message "8=FIX.4.2|9=211|35=8|34=1|49=V|50=DJGB|52=20260105-09:00:02|56=P|1=ACC-1|6=0.000000|11=BUY-1|14=0|17=1|20=0|37=1000000000|38=1200|39=0|40=2|44=0.100|47=A|54=1|55=350|59=0|60=20260105-09:00:02|109=10|150=0|151=1200|423=9|8060=1|10=185|")).kind ≡ 11
unfolding computes
ten_digits = refl

order_zero : read_number (read_of Bonds (message "8=FIX.4.2|9=202|35=8|34=1|49=V|50=DJGB|52=20260105-09:00:02|56=P|1=ACC-1|6=0.000000|11=BUY-1|14=0|17=1|20=0|37=0|38=1200|39=0|40=2|44=0.100|47=A|54=1|55=350|59=0|60=20260105-09:00:02|109=10|150=0|151=1200|423=9|8060=1|10=008|")).kind ≡ 11
unfolding computes
order_zero = refl

-- a CheckSum of two digits
short_sum : read_number (read_of Bonds (message "8=FIX.4.2|9=202|35=8|34=1|49=V|50=DJGB|52=20260105-09:00:02|56=P|1=ACC-1|6=0.000000|11=BUY-1|14=0|17=1|20=0|37=7|38=1200|39=0|40=2|44=0.100|47=A|54=1|55=350|59=0|60=20260105-09:00:02|109=10|150=0|151=1200|423=9|8060=1|10=15|")).kind ≡ 11
unfolding computes
short_sum = refl

-- a Canceled with 378, and one that has 41 too
prevented_canceled : read_number (read_of Bonds (message "8=FIX.4.2|9=209|35=8|34=7|49=V|50=DJGB|52=20260105-09:00:01|56=P|1=ACC-1|6=0.100666|11=BUY-1|14=300|17=7|20=0|37=7|38=1200|39=4|40=2|44=0.100|47=A|54=1|55=350|59=0|60=20260105-09:00:01|109=10|150=4|151=0|378=100|423=9|8060=1|10=124|")).kind ≡ 0
unfolding computes
prevented_canceled = refl

two_reasons : read_number (read_of Bonds (message "8=FIX.4.2|9=218|35=8|34=7|49=V|50=DJGB|52=20260105-09:00:01|56=P|1=ACC-1|6=0.100666|11=BUY-1|14=300|17=7|20=0|37=7|38=1200|39=4|40=2|41=BUY-1|44=0.100|47=A|54=1|55=350|59=0|60=20260105-09:00:01|109=10|150=4|151=0|378=100|423=9|8060=1|10=109|")).kind ≡ 11
unfolding computes
two_reasons = refl

-- 59 and 110 are read as they stand, and neither is compared with the other or with 38
abbrev order_says : List ℕ → List ℕ
order_says r = read_number (read_of Bonds r).kind ∷ says 59 (read_of Bonds r) ∷ says 110 (read_of Bonds r) ∷ []

least_read : order_says (message "8=FIX.4.2|9=210|35=8|34=1|49=V|50=DJGB|52=20260105-09:00:02|56=P|1=ACC-1|6=0.000000|11=BUY-1|14=0|17=1|20=0|37=7|38=1200|39=0|40=2|44=0.100|47=A|54=1|55=350|59=3|60=20260105-09:00:02|109=10|110=700|150=0|151=1200|423=9|8060=1|10=120|") ≡ 0 ∷ 3 ∷ 700 ∷ []
unfolding computes
least_read = refl

kill_read : order_says (message "8=FIX.4.2|9=202|35=8|34=1|49=V|50=DJGB|52=20260105-09:00:02|56=P|1=ACC-1|6=0.000000|11=BUY-1|14=0|17=1|20=0|37=7|38=1200|39=0|40=2|44=0.100|47=A|54=1|55=350|59=4|60=20260105-09:00:02|109=10|150=0|151=1200|423=9|8060=1|10=019|") ≡ 0 ∷ 4 ∷ 0 ∷ []
unfolding computes
kill_read = refl

uncompared : order_says (message "8=FIX.4.2|9=211|35=8|34=1|49=V|50=DJGB|52=20260105-09:00:02|56=P|1=ACC-1|6=0.000000|11=BUY-1|14=0|17=1|20=0|37=7|38=1200|39=0|40=2|44=0.100|47=A|54=1|55=350|59=4|60=20260105-09:00:02|109=10|110=1201|150=0|151=1200|423=9|8060=1|10=167|") ≡ 0 ∷ 4 ∷ 1201 ∷ []
unfolding computes
uncompared = refl

-- there is no 59=1, 110 stands between 109 and 150, and has no needless zero
tif_one : read_number (read_of Bonds (message "8=FIX.4.2|9=202|35=8|34=1|49=V|50=DJGB|52=20260105-09:00:02|56=P|1=ACC-1|6=0.000000|11=BUY-1|14=0|17=1|20=0|37=7|38=1200|39=0|40=2|44=0.100|47=A|54=1|55=350|59=1|60=20260105-09:00:02|109=10|150=0|151=1200|423=9|8060=1|10=016|")).kind ≡ 11
unfolding computes
tif_one = refl

least_before : read_number (read_of Bonds (message "8=FIX.4.2|9=210|35=8|34=1|49=V|50=DJGB|52=20260105-09:00:02|56=P|1=ACC-1|6=0.000000|11=BUY-1|14=0|17=1|20=0|37=7|38=1200|39=0|40=2|44=0.100|47=A|54=1|55=350|59=3|60=20260105-09:00:02|110=700|109=10|150=0|151=1200|423=9|8060=1|10=120|")).kind ≡ 11
unfolding computes
least_before = refl

least_behind : read_number (read_of Bonds (message "8=FIX.4.2|9=210|35=8|34=1|49=V|50=DJGB|52=20260105-09:00:02|56=P|1=ACC-1|6=0.000000|11=BUY-1|14=0|17=1|20=0|37=7|38=1200|39=0|40=2|44=0.100|47=A|54=1|55=350|59=3|60=20260105-09:00:02|109=10|150=0|110=700|151=1200|423=9|8060=1|10=120|")).kind ≡ 11
unfolding computes
least_behind = refl

least_zeros : read_number (read_of Bonds (message "8=FIX.4.2|9=211|35=8|34=1|49=V|50=DJGB|52=20260105-09:00:02|56=P|1=ACC-1|6=0.000000|11=BUY-1|14=0|17=1|20=0|37=7|38=1200|39=0|40=2|44=0.100|47=A|54=1|55=350|59=3|60=20260105-09:00:02|109=10|110=0700|150=0|151=1200|423=9|8060=1|10=169|")).kind ≡ 11
unfolding computes
least_zeros = refl

-- ---- the place of a field

abbrev without : List ℕ
without = message "8=FIX.4.2|9=194|35=8|34=1|49=V|50=DJGB|52=20260105-09:00:02|56=P|6=0.000000|11=BUY-1|14=0|17=1|20=0|37=7|38=1200|39=0|40=2|44=0.100|47=A|54=1|55=350|59=0|60=20260105-09:00:02|109=10|150=0|151=1200|423=9|8060=1|10=133|"

-- 1 is not 11, nor 151, whose digits end with it
shorter_tag : place_of_tag without 1 ≡ None
unfolding computes
shorter_tag = refl

-- a tag that is not there has no place
no_tag : place_of_tag without 999 ≡ None
unfolding computes
no_tag = refl

-- ---- what the reports of Run say: A's buy against book R, in mode 3. The first step trades 100, the third decrements the buy by 200

-- the number that report k says for a tag; reports are counted from 0
abbrev told : List (List ℕ) → ℕ → ℕ → ℕ
told [] k tag = 0
told (r ∷ rs) zero tag = says tag (read_of Bonds r)
told (r ∷ rs) (suc k) tag = told rs k tag

-- of the two reports of the trade: 34, their own numbers; 375, the other's MPID; 851, the resting order adds liquidity and the one in
-- work removes it
abbrev trade_says : List (List ℕ) → List ℕ
trade_says rs = told rs 0 34 ∷ told rs 1 34 ∷ told rs 0 375 ∷ told rs 1 375 ∷ told rs 0 851 ∷ told rs 1 851 ∷ []

trade_told : trade_says (ran Bonds (book_r 3) 262144 1).reports ≡ 6 ∷ 7 ∷ 10 ∷ 11 ∷ 1 ∷ 2 ∷ []
unfolding computes
trade_told = refl

-- 37 is the OrderID of the report's own order: that of record 1 is 3, that of record 5 is 1
abbrev trade_orders : List (List ℕ) → List ℕ
trade_orders rs = told rs 0 37 ∷ told rs 1 37 ∷ []

trade_37 : trade_orders (ran Bonds (mixed 3) 262144 1).reports ≡ 3 ∷ 1 ∷ []
unfolding computes
trade_37 = refl

-- of the decrement, the sixth report: 34, 38, which stays 1,200, and 151, which falls to 700
abbrev decrement_says : List (List ℕ) → List ℕ
decrement_says rs = told rs 5 34 ∷ told rs 5 38 ∷ told rs 5 151 ∷ []

decrement_told : decrement_says (ran Bonds (book_r 3) 262144 3).reports ≡ 11 ∷ 1200 ∷ 700 ∷ []
unfolding computes
decrement_told = refl

-- of a kill, the one report: 34, 59 and 110 as sent, 150, which is Canceled, 151, of which nothing is left, and 378
abbrev kill_says : List (List ℕ) → List ℕ
kill_says rs = told rs 0 34 ∷ told rs 0 59 ∷ told rs 0 110 ∷ told rs 0 150 ∷ told rs 0 151 ∷ told rs 0 378 ∷ []

missed_told : kill_says (ran Bonds (book_least 3 801) 262144 256).reports ≡ 6 ∷ 3 ∷ 801 ∷ 4 ∷ 0 ∷ 99 ∷ []
unfolding computes
missed_told = refl

kill_told : kill_says (ran Bonds book_kill 262144 256).reports ≡ 6 ∷ 4 ∷ 0 ∷ 4 ∷ 0 ∷ 99 ∷ []
unfolding computes
kill_told = refl

-- a trade shows 110 of the order that has it, and the other has none
abbrev minimums_say : List (List ℕ) → List ℕ
minimums_say rs = told rs 0 110 ∷ told rs 1 110 ∷ []

trade_minimums : minimums_say (ran Bonds (book_least 3 800) 262144 1).reports ≡ 0 ∷ 800 ∷ []
unfolding computes
trade_minimums = refl

-- ---- what the reports of Submit say, while a buy of 100 rests that has ClOrdID a

abbrev buy : List ℕ
buy = message "8=FIX.4.2|9=122|35=D|34=1|49=P|52=20260105-09:00:00|56=V|11=a|21=1|38=100|40=2|44=0.100|47=A|54=1|55=350|59=0|60=20260105-09:00:00|8060=1|10=115|"

abbrev rests : List ℕ
rests = put_best (end_work (submitted Bonds (fresh 1) buy 1024).table)

-- a cancel that gives another side
abbrev side_two : List ℕ
side_two = message "8=FIX.4.2|9=84|35=F|34=2|49=P|52=20260105-09:00:00|56=V|11=b|41=a|54=2|55=350|60=20260105-09:00:00|10=219|"

-- 102 is 2 for another side, and 0 where nothing is open
other_side_lem : told (submitted Bonds rests side_two 1024).reports 0 102 ≡ 2
unfolding computes
other_side_lem = refl

abbrev dead : List ℕ
dead = (submitted Bonds rests (message "8=FIX.4.2|9=84|35=F|34=2|49=P|52=20260105-09:00:00|56=V|11=b|41=a|54=1|55=350|60=20260105-09:00:00|10=218|") 1024).table

nothing_open : told (submitted Bonds dead (message "8=FIX.4.2|9=84|35=F|34=3|49=P|52=20260105-09:00:00|56=V|11=c|41=b|54=1|55=350|60=20260105-09:00:00|10=221|") 1024).reports 0 102 ≡ 0
unfolding computes
nothing_open = refl

-- the text that the first report has for a tag
abbrev named : ℕ → List (List ℕ) → List ℕ
named tag [] = []
named tag (r ∷ rs) = value_of r tag

-- a Replaced names the ClOrdID before
abbrev replacement : List ℕ
replacement = message "8=FIX.4.2|9=110|35=G|34=2|49=P|52=20260105-09:00:00|56=V|11=b|21=1|38=100|40=2|41=a|44=0.101|54=1|55=350|60=20260105-09:00:00|10=119|"

replaced_41 : named 41 (submitted Bonds rests replacement 1024).reports ≡ message "a"
unfolding computes
replaced_41 = refl

-- an Accepted shows 59=4 as it was sent, and 110 of 0007 without its zeros
accepted_59 : named 59 (submitted Bonds (fresh 1) (message "8=FIX.4.2|9=123|35=D|34=1|49=P|52=20260101-09:00:00|56=V|11=A1|21=1|38=100|40=2|44=0.101|47=A|54=2|55=350|59=4|60=20260101-09:00:00|8060=1|10=131|") 1024).reports ≡ message "4"
unfolding computes
accepted_59 = refl

accepted_110 : named 110 (submitted Bonds (fresh 1) (message "8=FIX.4.2|9=132|35=D|34=1|49=P|52=20260101-09:00:00|56=V|11=A1|21=1|38=100|40=2|44=0.101|47=A|54=2|55=350|59=3|60=20260101-09:00:00|110=0007|8060=1|10=025|") 1024).reports ≡ message "7"
unfolding computes
accepted_110 = refl

-- ---- 37, where the buy is record 1 and its Accepted report number 7: the Accepted, the Replaced that is number 8, a Cancel reject

abbrev seventh : Submitted
seventh = submitted Bonds (put_next (fresh 1) 7) buy 1024

abbrev later : List ℕ
later = put_best (end_work seventh.table)

accepted_37 : told seventh.reports 0 37 ≡ 7
unfolding computes
accepted_37 = refl

replaced_37 : told (submitted Bonds later replacement 1024).reports 0 37 ≡ 7
unfolding computes
replaced_37 = refl

reject_37 : told (submitted Bonds later side_two 1024).reports 0 37 ≡ 7
unfolding computes
reject_37 = refl

-- ---- reports of equities

-- an Accepted of a short sell; AvgPx has four decimals and not six, 44 one, 50 is DAY, and there is no 423
shares_read : read_number (read_of Equities (message "8=FIX.4.2|9=209|35=8|34=1|49=V|50=DAY|52=20260105-09:00:02|56=P|1=ACC-1|6=0.0000|11=BUY-1|14=0|17=1|20=0|37=7|38=1200|39=0|40=2|44=100.1|47=A|54=5|55=7203.T|59=0|60=20260105-09:00:02|109=10|150=0|151=1200|544=2|8060=1|8214=1|10=115|")).kind ≡ 0
unfolding computes
shares_read = refl

six_decimals : read_number (read_of Equities (message "8=FIX.4.2|9=211|35=8|34=1|49=V|50=DAY|52=20260105-09:00:02|56=P|1=ACC-1|6=0.000000|11=BUY-1|14=0|17=1|20=0|37=7|38=1200|39=0|40=2|44=100.1|47=A|54=5|55=7203.T|59=0|60=20260105-09:00:02|109=10|150=0|151=1200|544=2|8060=1|8214=1|10=204|")).kind ≡ 11
unfolding computes
six_decimals = refl

three_decimals : read_number (read_of Equities (message "8=FIX.4.2|9=211|35=8|34=1|49=V|50=DAY|52=20260105-09:00:02|56=P|1=ACC-1|6=0.0000|11=BUY-1|14=0|17=1|20=0|37=7|38=1200|39=0|40=2|44=100.100|47=A|54=5|55=7203.T|59=0|60=20260105-09:00:02|109=10|150=0|151=1200|544=2|8060=1|8214=1|10=204|")).kind ≡ 11
unfolding computes
three_decimals = refl

other_group : read_number (read_of Equities (message "8=FIX.4.2|9=210|35=8|34=1|49=V|50=DJGB|52=20260105-09:00:02|56=P|1=ACC-1|6=0.0000|11=BUY-1|14=0|17=1|20=0|37=7|38=1200|39=0|40=2|44=100.1|47=A|54=5|55=7203.T|59=0|60=20260105-09:00:02|109=10|150=0|151=1200|544=2|8060=1|8214=1|10=164|")).kind ≡ 11
unfolding computes
other_group = refl

own_count : read_number (read_of Equities (message "8=FIX.4.2|9=215|35=8|34=1|49=V|50=DAY|52=20260105-09:00:02|56=P|1=ACC-1|6=0.0000|11=BUY-1|14=0|17=1|20=0|37=7|38=1200|39=0|40=2|44=100.1|47=A|54=5|55=7203.T|59=0|60=20260105-09:00:02|109=10|150=0|151=1200|423=9|544=2|8060=1|8214=1|10=128|")).kind ≡ 11
unfolding computes
own_count = refl

-- it is no report of bonds
shares_unread : read_number (read_of Bonds (message "8=FIX.4.2|9=209|35=8|34=1|49=V|50=DAY|52=20260105-09:00:02|56=P|1=ACC-1|6=0.0000|11=BUY-1|14=0|17=1|20=0|37=7|38=1200|39=0|40=2|44=100.1|47=A|54=5|55=7203.T|59=0|60=20260105-09:00:02|109=10|150=0|151=1200|544=2|8060=1|8214=1|10=115|")).kind ≡ 11
unfolding computes
shares_unread = refl

-- what the six reports of the buy of 600 say, which trades 200 and 300 at 100.0 and 100 at 100.1: the last one's AvgPx is 100.0167; the
-- first one, of the short sell, has its side, its price and its 544 as sent
abbrev texts : List (List ℕ) → ℕ → ℕ → List ℕ
texts [] k tag = []
texts (r ∷ rs) zero tag = value_of r tag
texts (r ∷ rs) (suc k) tag = texts rs k tag

abbrev shares_say : List (List ℕ) → List (List ℕ)
shares_say rs = texts rs 5 6 ∷ texts rs 0 54 ∷ texts rs 0 31 ∷ texts rs 0 544 ∷ texts rs 0 375 ∷ []

shares_told_lem : shares_say (ran Equities shares 262144 256).reports ≡ message "100.0167" ∷ message "5" ∷ message "100.0" ∷ message "1" ∷ [] ∷ []
unfolding computes
shares_told_lem = refl
