-- A copy of a Trade, one of an Accepted without an MPID, and those of the Canceled of a Fill or Kill and of an order with a minimum, worked
-- out apart from the definitions and then computed; and what comes of a Rejected. They rule out, byte for byte: 34 or 17 left as the
-- report's, 109 kept or left out, 797 at another place, 9 or 10 not worked out anew; a copy of a Fill or Kill that shows 59=4, has no 110, or
-- has the report's 110 and not 38's value; the 110 of any other order changed or left out; a Rejected copied, and a number raised for
-- a report that is not copied. And bytes that show 59=4 are read as no copy. Of equities: a Trade of a margin order and an Accepted with a
-- text of 109 of twenty characters; they rule out 797 before 544 or behind 8214, and that 8214 is lost. One character more is refused there and
-- taken of bonds; no market copies the other's reports; a minus before a price is no report.
use mathlib.Core.Path.{◌≡◌, refl}
use mathlib.Core.List.{List, []}
use Prim.Native.Nat.{ℕ}
use Rattle.octets.specs.Characters.{bytes, message}
use Rattle.octets.specs.Octets.{part_at, same_bytes}
use Rattle.decimal.specs.declared.Instrument.TheVariants.{Bonds, Equities}
use Rattle.decimal.specs.Writing.{decimal, places, plain, fixed, level_text, mean_text}
use Rattle.decimal.specs.Canonical.{bare, bare_of, exactly_of, amount_of, fixed_of, level_in, mean_in}
use Rattle.decimal.specs.Reading.{is_digit, digit_of, run_of, number_after, is_number, num_of, is_time_length, two_at, time_shaped, time_ranged, is_time}
use Rattle.fix.specs.Garbled.{sum_of, check_sum}
use Rattle.report.specs.Fields.{label, written, field_bytes}
use Rattle.report.specs.Frame.{version, front, trailer, report_bytes}
use Rattle.report.specs.Shapes.{one_in, word_in, order_id_in, text_in, time_in}
use Rattle.report.specs.Parse.{value_at, field_at, hop, place_of}
use Rattle.report.specs.Slots.{accepted_slots, canceled_slots, trade_slots, rejected_slots}
use Rattle.report.specs.Reports.{body_at, trailer_at, read_framed, execution_for, kind_for, first_of, kind_of, one_reason, refused, read_of}
use Rattle.report.specs.declared.Kind.TheVariants.{Canceled, Trade}
use Rattle.std.proofs.Common.{Err}
use Rattle.refusals.specs.declared.Refusal.TheVariants.{NoReport, BadFeed, NumbersSpent}
use Rattle.feed.specs.Rows.{with797, is_fill_or_kill, ioc_value, ioc_field, shown_row, copy_value, copy_field, copy_row, copy_slot, copy_slots}
use Rattle.feed.specs.Settings.{client_of, is_identifier, are_identifiers, is_setting}
use Rattle.feed.specs.Copies.{copied, not_copied, copy_bytes, fed, copy_number, read_copy_of}

-- open the definitions that a copy is computed with
computes : ℕ
unfolding part_at same_bytes decimal places plain fixed level_text mean_text bare bare_of exactly_of amount_of fixed_of level_in mean_in is_digit digit_of run_of number_after is_number num_of is_time_length two_at time_shaped time_ranged is_time sum_of check_sum label written field_bytes version front trailer report_bytes one_in word_in order_id_in text_in time_in value_at field_at hop place_of accepted_slots canceled_slots trade_slots rejected_slots body_at trailer_at read_framed execution_for kind_for first_of kind_of one_reason read_of with797 is_fill_or_kill ioc_value ioc_field shown_row copy_value copy_field copy_row copy_slot copy_slots client_of is_identifier are_identifiers is_setting copy_bytes fed read_copy_of
computes = 0

-- the identifiers P1 and G
abbrev p1 : List ℕ
p1 = bytes "P1"

abbrev g : List ℕ
g = bytes "G"

-- a Trade of an order with an MPID: report 9, 17=9, 109=10
abbrev trade : List ℕ
trade = message "8=FIX.4.2|9=243|35=8|34=9|49=V|50=DJGB|52=20260105-09:00:01|56=P|1=ACC-1|6=0.100666|11=BUY-1|14=300|17=9|20=0|31=0.100|32=200|37=7|38=1200|39=1|40=2|44=0.100|47=A|54=1|55=350|59=0|60=20260105-09:00:01|109=10|150=1|151=900|375=0|382=1|423=9|851=1|880=9|8060=1|10=115|"

-- an Accepted of an order without one: report 999,999,999
abbrev accepted : List ℕ
accepted = message "8=FIX.4.2|9=204|35=8|34=999999999|49=V|50=DJGB|52=20260105-09:00:02|56=P|6=0.000000|11=BUY-1|14=0|17=999999999|20=0|37=255|38=500|39=0|40=2|44=-0.005|47=P|54=2|55=350|59=3|60=20260105-09:00:02|150=0|151=500|423=9|8060=6|10=054|"

-- a Canceled of a Fill or Kill of 1,200: report 9; the same with a 110 of its own, and of an Immediate or Cancel with that minimum
abbrev kill : List ℕ
kill = message "8=FIX.4.2|9=191|35=8|34=9|49=V|50=DJGB|52=20260105-09:00:01|56=P|6=0.000000|11=BUY-1|14=0|17=9|20=0|37=7|38=1200|39=4|40=2|44=0.100|47=A|54=1|55=350|59=4|60=20260105-09:00:01|150=4|151=0|378=99|423=9|8060=1|10=034|"

abbrev kill_and110 : List ℕ
kill_and110 = message "8=FIX.4.2|9=197|35=8|34=9|49=V|50=DJGB|52=20260105-09:00:01|56=P|6=0.000000|11=BUY-1|14=0|17=9|20=0|37=7|38=1200|39=4|40=2|44=0.100|47=A|54=1|55=350|59=4|60=20260105-09:00:01|110=7|150=4|151=0|378=99|423=9|8060=1|10=047|"

abbrev with_minimum : List ℕ
with_minimum = message "8=FIX.4.2|9=197|35=8|34=9|49=V|50=DJGB|52=20260105-09:00:01|56=P|6=0.000000|11=BUY-1|14=0|17=9|20=0|37=7|38=1200|39=4|40=2|44=0.100|47=A|54=1|55=350|59=3|60=20260105-09:00:01|110=7|150=4|151=0|378=99|423=9|8060=1|10=046|"

-- a Rejected: report 13
abbrev rejected : List ℕ
rejected = message "8=FIX.4.2|9=136|35=8|34=13|49=V|50=DJGB|52=20260105-09:00:02|56=P|6=0.000000|11=BUY-2|14=0|17=13|20=0|37=NONE|38=42|39=8|54=1|55=350|103=99|150=8|151=0|10=144|"

-- a full feed that shows both, at number 5: 34=5, 17=5, 109=P1-G, and 797=Y between 423 and 851
pub copy_of_trade : fed Bonds trade 2 3 p1 g 5 1024 ≡ record { answer = copied 274 6; bytes = message "8=FIX.4.2|9=251|35=8|34=5|49=V|50=DJGB|52=20260105-09:00:01|56=P|1=ACC-1|6=0.100666|11=BUY-1|14=300|17=5|20=0|31=0.100|32=200|37=7|38=1200|39=1|40=2|44=0.100|47=A|54=1|55=350|59=0|60=20260105-09:00:01|109=P1-G|150=1|151=900|375=0|382=1|423=9|797=Y|851=1|880=9|8060=1|10=060|" }
unfolding computes
copy_of_trade = refl

-- one that shows the group, at its last number: 109=G though the report has none, and 797=Y between 423 and 8060
pub copy_of_accepted : fed Bonds accepted 2 2 [] g 999999999 1024 ≡ record { answer = copied 239 1000000000; bytes = message "8=FIX.4.2|9=216|35=8|34=999999999|49=V|50=DJGB|52=20260105-09:00:02|56=P|6=0.000000|11=BUY-1|14=0|17=999999999|20=0|37=255|38=500|39=0|40=2|44=-0.005|47=P|54=2|55=350|59=3|60=20260105-09:00:02|109=G|150=0|151=500|423=9|797=Y|8060=6|10=150|" }
unfolding computes
copy_of_accepted = refl

-- a Fill or Kill is shown as Immediate or Cancel with all of its quantity as the minimum, whether its report has 110 or not
abbrev kill_shown : List ℕ
kill_shown = message "8=FIX.4.2|9=215|35=8|34=5|49=V|50=DJGB|52=20260105-09:00:01|56=P|6=0.000000|11=BUY-1|14=0|17=5|20=0|37=7|38=1200|39=4|40=2|44=0.100|47=A|54=1|55=350|59=3|60=20260105-09:00:01|109=P1-G|110=1200|150=4|151=0|378=99|423=9|797=Y|8060=1|10=180|"

pub copy_of_kill : fed Bonds kill 2 3 p1 g 5 1024 ≡ record { answer = copied 238 6; bytes = kill_shown }
unfolding computes
copy_of_kill = refl

pub copy_of_kill_and_110 : fed Bonds kill_and110 2 3 p1 g 5 1024 ≡ record { answer = copied 238 6; bytes = kill_shown }
unfolding computes
copy_of_kill_and_110 = refl

-- any other order's minimum is the report's
pub copy_of_minimum : fed Bonds with_minimum 2 3 p1 g 5 1024 ≡ record { answer = copied 235 6; bytes = message "8=FIX.4.2|9=212|35=8|34=5|49=V|50=DJGB|52=20260105-09:00:01|56=P|6=0.000000|11=BUY-1|14=0|17=5|20=0|37=7|38=1200|39=4|40=2|44=0.100|47=A|54=1|55=350|59=3|60=20260105-09:00:01|109=P1-G|110=7|150=4|151=0|378=99|423=9|797=Y|8060=1|10=037|" }
unfolding computes
copy_of_minimum = refl

-- the first copy is read as one, and with 59=4 in it, 10 made true, it is none
pub kill_read : (read_copy_of Bonds kill_shown).kind ≡ Canceled
unfolding computes
kill_read = refl

pub four_refused : read_copy_of Bonds (message "8=FIX.4.2|9=215|35=8|34=5|49=V|50=DJGB|52=20260105-09:00:01|56=P|6=0.000000|11=BUY-1|14=0|17=5|20=0|37=7|38=1200|39=4|40=2|44=0.100|47=A|54=1|55=350|59=4|60=20260105-09:00:01|109=P1-G|110=1200|150=4|151=0|378=99|423=9|797=Y|8060=1|10=181|") ≡ refused
unfolding computes
four_refused = refl

-- a Rejected is not copied and takes no number, nor is an Accepted by a reconciliation feed
pub rejected_not : fed Bonds rejected 2 3 p1 g 5 1024 ≡ record { answer = not_copied 5; bytes = [] }
unfolding computes
rejected_not = refl

pub accepted_not : fed Bonds accepted 1 3 p1 g 5 1024 ≡ record { answer = not_copied 5; bytes = [] }
unfolding computes
accepted_not = refl

-- refusals come first: a Rejected with number 0, and one with an identifier that is shown and empty, though its number is 0 too
pub rejected_spent : fed Bonds rejected 2 3 p1 g 0 1024 ≡ record { answer = Err NumbersSpent; bytes = [] }
unfolding computes
rejected_spent = refl

pub rejected_unset : fed Bonds rejected 2 3 p1 [] 0 1024 ≡ record { answer = Err BadFeed; bytes = [] }
unfolding computes
rejected_unset = refl

-- ---- equities

-- a Trade of a short sale on margin: report 9, 17=9, 109=10
abbrev sale : List ℕ
sale = message "8=FIX.4.2|9=239|35=8|34=9|49=V|50=DAY|52=20260105-09:00:01|56=P|1=ACC-1|6=100.0063|11=SELL-1|14=300|17=9|20=0|31=100.1|32=200|37=7|38=1200|39=1|40=2|44=100.0|47=A|54=5|55=130A|59=0|60=20260105-09:00:01|109=10|150=1|151=900|544=2|851=1|880=9|8060=1|8214=2|10=219|"

-- 797=Y between 544 and 851, 8214 last
abbrev sale_shown : List ℕ
sale_shown = message "8=FIX.4.2|9=247|35=8|34=5|49=V|50=DAY|52=20260105-09:00:01|56=P|1=ACC-1|6=100.0063|11=SELL-1|14=300|17=5|20=0|31=100.1|32=200|37=7|38=1200|39=1|40=2|44=100.0|47=A|54=5|55=130A|59=0|60=20260105-09:00:01|109=P1-G|150=1|151=900|544=2|797=Y|851=1|880=9|8060=1|8214=2|10=164|"

pub copy_of_sale : fed Equities sale 1 3 p1 g 5 1024 ≡ record { answer = copied 270 6; bytes = sale_shown }
unfolding computes
copy_of_sale = refl

pub sale_read : (read_copy_of Equities sale_shown).kind ≡ Trade
unfolding computes
sale_read = refl

-- 797 must stand there: behind 8214 it is no copy
pub late_refused : read_copy_of Equities (message "8=FIX.4.2|9=247|35=8|34=5|49=V|50=DAY|52=20260105-09:00:01|56=P|1=ACC-1|6=100.0063|11=SELL-1|14=300|17=5|20=0|31=100.1|32=200|37=7|38=1200|39=1|40=2|44=100.0|47=A|54=5|55=130A|59=0|60=20260105-09:00:01|109=P1-G|150=1|151=900|544=2|8214=2|797=Y|851=1|880=9|8060=1|10=164|") ≡ refused
unfolding computes
late_refused = refl

-- an Accepted of an order for cash at a price of zero
abbrev bought : List ℕ
bought = message "8=FIX.4.2|9=183|35=8|34=9|49=V|50=DAY|52=20260105-09:00:02|56=P|6=0.0000|11=BUY-1|14=0|17=9|20=0|37=255|38=500|39=0|40=2|44=0.0|47=P|54=1|55=9501|59=3|60=20260105-09:00:02|150=0|151=500|544=1|8060=6|10=179|"

-- 109 has twenty characters, 797=Y stands between 544 and 8060
pub copy_of_bought : fed Equities bought 2 2 [] (bytes "GGGGGGGGGGGGGGGGGGGG") 5 1024 ≡ record { answer = copied 237 6; bytes = message "8=FIX.4.2|9=214|35=8|34=5|49=V|50=DAY|52=20260105-09:00:02|56=P|6=0.0000|11=BUY-1|14=0|17=5|20=0|37=255|38=500|39=0|40=2|44=0.0|47=P|54=1|55=9501|59=3|60=20260105-09:00:02|109=GGGGGGGGGGGGGGGGGGGG|150=0|151=500|544=1|797=Y|8060=6|10=072|" }
unfolding computes
copy_of_bought = refl

-- twenty-one are too many for equities, not for bonds
pub bought_long : fed Equities bought 2 2 [] (bytes "GGGGGGGGGGGGGGGGGGGGG") 5 1024 ≡ record { answer = Err BadFeed; bytes = [] }
unfolding computes
bought_long = refl

pub accepted_long : copy_number (fed Bonds accepted 2 2 [] (bytes "GGGGGGGGGGGGGGGGGGGGG") 5 1024).answer ≡ 0
unfolding computes
accepted_long = refl

-- neither market's reports are the other's
pub bought_not_bonds : fed Bonds bought 2 3 p1 g 5 1024 ≡ record { answer = Err NoReport; bytes = [] }
unfolding computes
bought_not_bonds = refl

pub accepted_not_equities : fed Equities accepted 2 3 p1 g 5 1024 ≡ record { answer = Err NoReport; bytes = [] }
unfolding computes
accepted_not_equities = refl

-- a minus before a price
pub minus_refused : read_of Equities (message "8=FIX.4.2|9=184|35=8|34=9|49=V|50=DAY|52=20260105-09:00:02|56=P|6=0.0000|11=BUY-1|14=0|17=9|20=0|37=255|38=500|39=0|40=2|44=-1.0|47=P|54=1|55=9501|59=3|60=20260105-09:00:02|150=0|151=500|544=1|8060=6|10=226|") ≡ refused
unfolding computes
minus_refused = refl
