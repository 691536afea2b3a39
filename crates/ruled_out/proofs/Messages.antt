-- What a message is not taken for: each wrong reading that docs/PROMISES.md names, on a message that would tell it apart.
use mathlib.Core.Path.{◌≡◌, refl}
use mathlib.Core.Bool.{true, false}
use mathlib.Core.List.{List, [], ◌∷◌}
use Prim.Native.Nat.{ℕ}
use Prim.Native.String.{String}
use Rattle.octets.specs.Octets.{part_at, same_bytes}
use Rattle.decimal.specs.declared.Instrument.{Instrument}
use Rattle.decimal.specs.declared.Instrument.TheVariants.{Bonds, Equities}
use Rattle.decimal.specs.Reading.{is_digit, digit_of, run_of, number_after, is_number, num_of, fraction_of, size_of, level_of, is_time_length, two_at, time_shaped, time_ranged, is_time}
use Rattle.fix.specs.Fields.{is_text, starts_tag, leading, tag_of, value_from, value_len, field_of, fields_after, fields_from, step_of, find_tag, value_of, has_tag, repeats, clean_fields, last_tag_or}
use Rattle.fix.specs.Garbled.{headed_by, ordered, header_right, part_of, end_of, ten_at, length_true, sum_of, check_sum, sum_true, garbled_message, body_part, head_of, frame_of}
use Rattle.request.specs.declared.Asked.{Asked}
use Rattle.request.specs.declared.Asked.TheVariants.{Garbled, Refused, Enters, Replaces, Cancels}
use Rattle.request.specs.Asks.{body_of, said_in, length_in, has_in, refusal_of, terms_in, request_in, completed, agreed, body_asked, head_asked, asked_of}
use Rattle.request.specs.Session.{kind_of, one_of, belongs, listed, shape_of, char_says, look_as, judge, first_failing, first_missing, minimum_clashes, margin_clashes, first_clashing}
use Rattle.octets.specs.Characters.{message}

-- opens all definitions
computes : ℕ
unfolding part_at same_bytes is_digit digit_of run_of number_after is_number num_of fraction_of size_of level_of is_time_length two_at time_shaped time_ranged is_time is_text starts_tag leading tag_of value_from value_len field_of fields_after fields_from step_of find_tag value_of has_tag repeats clean_fields last_tag_or headed_by ordered header_right part_of end_of ten_at length_true sum_of check_sum sum_true garbled_message body_part head_of frame_of body_of said_in length_in has_in refusal_of terms_in request_in completed agreed body_asked head_asked asked_of kind_of one_of belongs listed shape_of char_says look_as judge first_failing first_missing minimum_clashes margin_clashes first_clashing
computes = 0

-- ---- garbled

-- an order to buy 100 at 0.100 is not garbled
plain : garbled_message (message "8=FIX.4.2|9=122|35=D|34=1|49=P|52=20260105-09:00:00|56=V|11=a|21=1|38=100|40=2|44=0.100|47=A|54=1|55=350|59=0|60=20260105-09:00:00|8060=1|10=115|") ≡ false
unfolding computes
plain = refl

-- 170 is the sum of all its bytes, those of field 10 among them
sum_with_ten : garbled_message (message "8=FIX.4.2|9=122|35=D|34=1|49=P|52=20260105-09:00:00|56=V|11=a|21=1|38=100|40=2|44=0.100|47=A|54=1|55=350|59=0|60=20260105-09:00:00|8060=1|10=170|") ≡ true
unfolding computes
sum_with_ten = refl

-- 11 stands twice
tag_twice : garbled_message (message "8=FIX.4.2|9=127|35=D|34=1|49=P|52=20260105-09:00:00|56=V|11=a|21=1|38=100|40=2|44=0.100|47=A|54=1|55=350|59=0|60=20260105-09:00:00|8060=1|11=b|10=122|") ≡ true
unfolding computes
tag_twice = refl

-- a tag starts with 0
zero_tag : garbled_message (message "8=FIX.4.2|9=128|35=D|34=1|49=P|52=20260105-09:00:00|56=V|11=a|21=1|38=100|40=2|44=0.100|47=A|54=1|55=350|59=0|60=20260105-09:00:00|8060=1|058=b|10=182|") ≡ true
unfolding computes
zero_tag = refl

-- ---- the value of a tag

-- 11 is not 110, whose digits begin with it
longer_tag : value_of (message "110=x|11=a|") 11 ≡ message "a"
unfolding computes
longer_tag = refl

-- a second `=` is part of the value, and so is what follows it
second_equals : value_of (message "58=a=b|11=c|") 58 ≡ message "a=b"
unfolding computes
second_equals = refl

-- ---- what a message asks of the market with venue V and port P

asks_of : Instrument → String → Asked
asks_of q s = asked_of q (message "V") (message "P") (message s)

-- which trades bonds
asks : String → Asked
asks s = asks_of Bonds s

-- 373 and 371 of a session Reject; neither where there is none
record Fault : Type 0 where
  reason : ℕ
  tag : ℕ

abbrev fault : Asked → Fault
fault Garbled = record { reason = 0; tag = 0 }
fault (Refused r) = record { reason = r.reason; tag = r.tag }
fault (Enters o) = record { reason = 0; tag = 0 }
fault (Replaces o) = record { reason = 0; tag = 0 }
fault (Cancels o) = record { reason = 0; tag = 0 }

-- 49 is held to the port and 56 to the venue
exchanged : fault (asks "8=FIX.4.2|9=122|35=D|34=1|49=V|52=20260105-09:00:00|56=P|11=a|21=1|38=100|40=2|44=0.100|47=A|54=1|55=350|59=0|60=20260105-09:00:00|8060=1|10=115|") ≡ record { reason = 9; tag = 49 }
unfolding computes asks_of asks
exchanged = refl

-- another venue is 9, not 11
other_venue : fault (asks "8=FIX.4.2|9=122|35=D|34=1|49=P|52=20260105-09:00:00|56=W|11=a|21=1|38=100|40=2|44=0.100|47=A|54=1|55=350|59=0|60=20260105-09:00:00|8060=1|10=116|") ≡ record { reason = 9; tag = 56 }
unfolding computes asks_of asks
other_venue = refl

-- a tag that no type has is 3, one of another type 2
unlisted : fault (asks "8=FIX.4.2|9=127|35=D|34=1|49=P|52=20260105-09:00:00|56=V|11=a|21=1|38=100|40=2|44=0.100|47=A|54=1|55=350|59=0|60=20260105-09:00:00|8060=1|58=b|10=133|") ≡ record { reason = 3; tag = 58 }
unfolding computes asks_of asks
unlisted = refl

other_type : fault (asks "8=FIX.4.2|9=127|35=D|34=1|49=P|52=20260105-09:00:00|56=V|11=a|21=1|38=100|40=2|44=0.100|47=A|54=1|55=350|59=0|60=20260105-09:00:00|8060=1|41=b|10=125|") ≡ record { reason = 2; tag = 41 }
unfolding computes asks_of asks
other_type = refl

-- a cancel needs 60
missing : fault (asks "8=FIX.4.2|9=63|35=F|34=1|49=P|52=20260105-09:00:00|56=V|11=b|41=a|54=1|55=350|10=216|") ≡ record { reason = 1; tag = 60 }
unfolding computes asks_of asks
missing = refl

-- ---- 59 and 110 of a new order: a sell of 100

-- as they were sent, 110 without needless zeros and 0 where it has none; nothing of what is not taken
abbrev sent : Asked → List ℕ
sent Garbled = []
sent (Refused r) = []
sent (Enters o) = o.terms.tif ∷ o.terms.minqty ∷ []
sent (Replaces o) = []
sent (Cancels o) = []

-- an IOC may ask for all that it orders, and Fill or Kill is a time in force of its own
minimum_taken : sent (asks "8=FIX.4.2|9=131|35=D|34=1|49=P|52=20260101-09:00:00|56=V|11=A1|21=1|38=100|40=2|44=0.101|47=A|54=2|55=350|59=3|60=20260101-09:00:00|110=100|8060=1|10=226|") ≡ 3 ∷ 100 ∷ []
unfolding computes asks_of asks
minimum_taken = refl

minimum_zeros : sent (asks "8=FIX.4.2|9=132|35=D|34=1|49=P|52=20260101-09:00:00|56=V|11=A1|21=1|38=100|40=2|44=0.101|47=A|54=2|55=350|59=3|60=20260101-09:00:00|110=0007|8060=1|10=025|") ≡ 3 ∷ 7 ∷ []
unfolding computes asks_of asks
minimum_zeros = refl

kill_taken : sent (asks "8=FIX.4.2|9=123|35=D|34=1|49=P|52=20260101-09:00:00|56=V|11=A1|21=1|38=100|40=2|44=0.101|47=A|54=2|55=350|59=4|60=20260101-09:00:00|8060=1|10=131|") ≡ 4 ∷ 0 ∷ []
unfolding computes asks_of asks
kill_taken = refl

-- there is no 59=1
tif_one : fault (asks "8=FIX.4.2|9=123|35=D|34=1|49=P|52=20260101-09:00:00|56=V|11=A1|21=1|38=100|40=2|44=0.101|47=A|54=2|55=350|59=1|60=20260101-09:00:00|8060=1|10=128|") ≡ record { reason = 5; tag = 59 }
unfolding computes asks_of asks
tif_one = refl

-- 110 is refused on a Day order, beside 59=4, and above 38
minimum_day : fault (asks "8=FIX.4.2|9=130|35=D|34=1|49=P|52=20260101-09:00:00|56=V|11=A1|21=1|38=100|40=2|44=0.101|47=A|54=2|55=350|59=0|60=20260101-09:00:00|110=50|8060=1|10=178|") ≡ record { reason = 5; tag = 110 }
unfolding computes asks_of asks
minimum_day = refl

minimum_kill : fault (asks "8=FIX.4.2|9=131|35=D|34=1|49=P|52=20260101-09:00:00|56=V|11=A1|21=1|38=100|40=2|44=0.101|47=A|54=2|55=350|59=4|60=20260101-09:00:00|110=100|8060=1|10=227|") ≡ record { reason = 5; tag = 110 }
unfolding computes asks_of asks
minimum_kill = refl

minimum_above : fault (asks "8=FIX.4.2|9=131|35=D|34=1|49=P|52=20260101-09:00:00|56=V|11=A1|21=1|38=100|40=2|44=0.101|47=A|54=2|55=350|59=3|60=20260101-09:00:00|110=101|8060=1|10=227|") ≡ record { reason = 5; tag = 110 }
unfolding computes asks_of asks
minimum_above = refl

-- it is 1 at least, and has 9 digits at most
minimum_zero : fault (asks "8=FIX.4.2|9=129|35=D|34=1|49=P|52=20260101-09:00:00|56=V|11=A1|21=1|38=100|40=2|44=0.101|47=A|54=2|55=350|59=3|60=20260101-09:00:00|110=0|8060=1|10=136|") ≡ record { reason = 5; tag = 110 }
unfolding computes asks_of asks
minimum_zero = refl

minimum_long : fault (asks "8=FIX.4.2|9=138|35=D|34=1|49=P|52=20260101-09:00:00|56=V|11=A1|21=1|38=100|40=2|44=0.101|47=A|54=2|55=350|59=3|60=20260101-09:00:00|110=1234567890|8060=1|10=101|") ≡ record { reason = 6; tag = 110 }
unfolding computes asks_of asks
minimum_long = refl

-- it belongs to no replacement and to no cancel
minimum_replaces : fault (asks "8=FIX.4.2|9=119|35=G|34=1|49=P|52=20260101-09:00:00|56=V|11=B1|21=1|38=100|40=2|41=A1|44=0.101|54=2|55=350|60=20260101-09:00:00|110=50|10=207|") ≡ record { reason = 2; tag = 110 }
unfolding computes asks_of asks
minimum_replaces = refl

minimum_cancels : fault (asks "8=FIX.4.2|9=93|35=F|34=1|49=P|52=20260101-09:00:00|56=V|11=B1|41=A1|54=2|55=350|60=20260101-09:00:00|110=50|10=041|") ≡ record { reason = 2; tag = 110 }
unfolding computes asks_of asks
minimum_cancels = refl

-- where 59 or 38 is missing 110 is not compared with it, but still with the other
minimum_no_tif : fault (asks "8=FIX.4.2|9=126|35=D|34=1|49=P|52=20260101-09:00:00|56=V|11=A1|21=1|38=100|40=2|44=0.101|47=A|54=2|55=350|60=20260101-09:00:00|110=100|8060=1|10=007|") ≡ record { reason = 1; tag = 59 }
unfolding computes asks_of asks
minimum_no_tif = refl

minimum_no_quantity : fault (asks "8=FIX.4.2|9=124|35=D|34=1|49=P|52=20260101-09:00:00|56=V|11=A1|21=1|40=2|44=0.101|47=A|54=2|55=350|59=3|60=20260101-09:00:00|110=999|8060=1|10=196|") ≡ record { reason = 1; tag = 38 }
unfolding computes asks_of asks
minimum_no_quantity = refl

minimum_no_tif_above : fault (asks "8=FIX.4.2|9=126|35=D|34=1|49=P|52=20260101-09:00:00|56=V|11=A1|21=1|38=100|40=2|44=0.101|47=A|54=2|55=350|60=20260101-09:00:00|110=101|8060=1|10=008|") ≡ record { reason = 5; tag = 110 }
unfolding computes asks_of asks
minimum_no_tif_above = refl

minimum_no_quantity_day : fault (asks "8=FIX.4.2|9=122|35=D|34=1|49=P|52=20260101-09:00:00|56=V|11=A1|21=1|40=2|44=0.101|47=A|54=2|55=350|59=0|60=20260101-09:00:00|110=1|8060=1|10=069|") ≡ record { reason = 5; tag = 110 }
unfolding computes asks_of asks
minimum_no_quantity_day = refl

-- fields are compared when each has passed by itself, a wrong 8060 behind them too, and before 11 is missed
minimum_later : fault (asks "8=FIX.4.2|9=129|35=D|34=1|49=P|52=20260101-09:00:00|56=V|11=A1|21=1|38=100|40=2|44=0.101|47=A|54=2|55=350|59=0|60=20260101-09:00:00|110=1|8060=2|10=135|") ≡ record { reason = 5; tag = 8060 }
unfolding computes asks_of asks
minimum_later = refl

minimum_sooner : fault (asks "8=FIX.4.2|9=123|35=D|34=1|49=P|52=20260101-09:00:00|56=V|21=1|38=100|40=2|44=0.101|47=A|54=2|55=350|59=0|60=20260101-09:00:00|110=1|8060=1|10=110|") ≡ record { reason = 5; tag = 110 }
unfolding computes asks_of asks
minimum_sooner = refl

-- ---- equities: a short sell of 100 at 100.1 on margin

-- side, level, 544 and 8214 of a new order; nothing of what is not taken
abbrev share : Asked → List ℕ
share Garbled = []
share (Refused r) = []
share (Enters o) = o.terms.side ∷ o.terms.level ∷ o.terms.cash ∷ o.terms.margin ∷ []
share (Replaces o) = []
share (Cancels o) = []

-- it is taken, a price as the level that lies so many tenths below 1,000,000,000; and with 8214
short_taken : share (asks_of Equities "8=FIX.4.2|9=131|35=D|34=1|49=P|52=20260105-09:00:00|56=V|11=a|21=1|38=100|40=2|44=100.1|47=A|54=5|55=7203.T|59=0|60=20260105-09:00:00|544=2|8060=1|10=059|") ≡ 5 ∷ 999998999 ∷ 2 ∷ 0 ∷ []
unfolding computes asks_of
short_taken = refl

margin_taken : share (asks_of Equities "8=FIX.4.2|9=138|35=D|34=1|49=P|52=20260105-09:00:00|56=V|11=a|21=1|38=100|40=2|44=100.1|47=A|54=5|55=7203.T|59=0|60=20260105-09:00:00|544=2|8060=1|8214=1|10=128|") ≡ 5 ∷ 999998999 ∷ 2 ∷ 1 ∷ []
unfolding computes asks_of
margin_taken = refl

-- 8214 is refused where 544 is 1, behind every other field and before 59 is missed
margin_cash : fault (asks_of Equities "8=FIX.4.2|9=138|35=D|34=1|49=P|52=20260105-09:00:00|56=V|11=a|21=1|38=100|40=2|44=100.1|47=A|54=5|55=7203.T|59=0|60=20260105-09:00:00|544=1|8060=1|8214=1|10=127|") ≡ record { reason = 5; tag = 8214 }
unfolding computes asks_of
margin_cash = refl

margin_sooner : fault (asks_of Equities "8=FIX.4.2|9=133|35=D|34=1|49=P|52=20260105-09:00:00|56=V|11=a|21=1|38=100|40=2|44=100.1|47=A|54=5|55=7203.T|60=20260105-09:00:00|544=1|8060=1|8214=1|10=158|") ≡ record { reason = 5; tag = 8214 }
unfolding computes asks_of
margin_sooner = refl

-- a new order needs 544, and where it is missing 8214 is not compared with it
cash_missing : fault (asks_of Equities "8=FIX.4.2|9=132|35=D|34=1|49=P|52=20260105-09:00:00|56=V|11=a|21=1|38=100|40=2|44=100.1|47=A|54=5|55=7203.T|59=0|60=20260105-09:00:00|8060=1|8214=1|10=109|") ≡ record { reason = 1; tag = 544 }
unfolding computes asks_of
cash_missing = refl

-- 544 belongs to no cancel, and to no bond order, which has neither side 5
cash_cancels : fault (asks_of Equities "8=FIX.4.2|9=93|35=F|34=2|49=P|52=20260105-09:00:00|56=V|11=b|41=a|54=5|55=7203.T|60=20260105-09:00:00|544=2|10=161|") ≡ record { reason = 2; tag = 544 }
unfolding computes asks_of
cash_cancels = refl

cash_bond : fault (asks_of Bonds "8=FIX.4.2|9=128|35=D|34=1|49=P|52=20260105-09:00:00|56=V|11=a|21=1|38=100|40=2|44=0.100|47=A|54=1|55=350|59=0|60=20260105-09:00:00|544=2|8060=1|10=134|") ≡ record { reason = 3; tag = 544 }
unfolding computes asks_of
cash_bond = refl

short_bond : fault (asks_of Bonds "8=FIX.4.2|9=122|35=D|34=1|49=P|52=20260105-09:00:00|56=V|11=a|21=1|38=100|40=2|44=0.100|47=A|54=5|55=350|59=0|60=20260105-09:00:00|8060=1|10=119|") ≡ record { reason = 5; tag = 54 }
unfolding computes asks_of
short_bond = refl

-- a price has no minus, one decimal at most, and eight whole digits at most
price_minus : fault (asks_of Equities "8=FIX.4.2|9=132|35=D|34=1|49=P|52=20260105-09:00:00|56=V|11=a|21=1|38=100|40=2|44=-100.1|47=A|54=5|55=7203.T|59=0|60=20260105-09:00:00|544=2|8060=1|10=105|") ≡ record { reason = 6; tag = 44 }
unfolding computes asks_of
price_minus = refl

price_decimals : fault (asks_of Equities "8=FIX.4.2|9=132|35=D|34=1|49=P|52=20260105-09:00:00|56=V|11=a|21=1|38=100|40=2|44=100.10|47=A|54=5|55=7203.T|59=0|60=20260105-09:00:00|544=2|8060=1|10=108|") ≡ record { reason = 6; tag = 44 }
unfolding computes asks_of
price_decimals = refl

price_digits : fault (asks_of Equities "8=FIX.4.2|9=135|35=D|34=1|49=P|52=20260105-09:00:00|56=V|11=a|21=1|38=100|40=2|44=123456789|47=A|54=5|55=7203.T|59=0|60=20260105-09:00:00|544=2|8060=1|10=044|") ≡ record { reason = 6; tag = 44 }
unfolding computes asks_of
price_digits = refl

-- a symbol has nine characters at most
symbol_long : fault (asks_of Equities "8=FIX.4.2|9=135|35=D|34=1|49=P|52=20260105-09:00:00|56=V|11=a|21=1|38=100|40=2|44=100.1|47=A|54=5|55=7203.TOKYO|59=0|60=20260105-09:00:00|544=2|8060=1|10=129|") ≡ record { reason = 6; tag = 55 }
unfolding computes asks_of
symbol_long = refl
