-- Which fields a message of each type has, what their values may be, and the first reason for which a body is rejected. From
-- "Reading a message" of document 01, the part on the session Reject, and T-05 and T-08 of document 02: fields are asked from the
-- left, each for the reasons 3, 2, 4, 6 and 5 in this order; then one that clashes with others, for the reason 5; then the smallest
-- needed tag that is missing, for the reason 1. Each reason goes by its name in FIX. What the market trades is q. Assumes nothing.
use Rattle.std.specs.Prelude.{Option, Some, None, Result, Ok, Err, ok_or, ℕ, ◌+◌, ◌-◌, List, [], ◌∷◌, ◌++◌, Bool, false, cond, not, ◌&&◌, ◌||◌, length, get_or, ltb, leb, eqb}
use Rattle.octets.specs.Characters.{byte, bytes}
use Rattle.octets.specs.Octets.{part_at, same_bytes}
use Rattle.decimal.specs.declared.Instrument.{Instrument}
use Rattle.decimal.specs.declared.Instrument.TheVariants.{Bonds, Equities}
use Rattle.decimal.specs.Reading.{is_digit, num_of, level_of, time_shaped, time_ranged}
use Rattle.fix.specs.Fields.{Fld, has_tag}
use Rattle.request.specs.declared.Kind.{Kind}
use Rattle.request.specs.declared.Kind.TheVariants.{NewOrder, Replacement, Cancel, Unknown}
use Rattle.request.specs.declared.Reason.{Reason}
use Rattle.request.specs.declared.Reason.TheVariants.{RequiredTagMissing, TagNotDefined, UndefinedTag, TagWithoutValue, ValueIncorrect, IncorrectDataFormat, CompIdProblem, InvalidMsgType}
use Rattle.request.specs.declared.Fault.{Fault}

-- ---- why a message is rejected, and the number (373) of it
abbrev pub number_of : Reason → ℕ
number_of RequiredTagMissing = 1
number_of TagNotDefined = 2
number_of UndefinedTag = 3
number_of TagWithoutValue = 4
number_of ValueIncorrect = 5
number_of IncorrectDataFormat = 6
number_of CompIdProblem = 9
number_of InvalidMsgType = 11

-- what a value says as a number (a text says the place where it stands), or the reason for which it fails
abbrev pub Judged : Type 0
Judged = Result ℕ Reason

-- nothing, or what is wrong with a message: a reason, and the tag (371) that it is of
abbrev pub Verdict : Type 0
Verdict = Result (Unit {0}) Fault

-- ---- types: D, G, F

-- the type that the value of 35 names
unfoldable pub kind_of : List ℕ → Kind
kind_of v =
    cond (same_bytes v (bytes "D")) NewOrder (cond (same_bytes v (bytes "G")) Replacement (cond (same_bytes v (bytes "F")) Cancel Unknown))

-- the tags of a new order that belong to one market alone: of equities CashMargin (544), which it needs, and MarginTransactionType (8214),
-- which it may have besides
abbrev pub own_needed : Instrument → List ℕ
own_needed Bonds = []
own_needed Equities = 544 ∷ []

abbrev pub own_optional : Instrument → List ℕ
own_optional Bonds = []
own_optional Equities = 8214 ∷ []

-- the tags that a message of the type needs, from the smallest up
abbrev pub needed : Instrument → Kind → List ℕ
needed q NewOrder = 11 ∷ 21 ∷ 38 ∷ 40 ∷ 44 ∷ 47 ∷ 54 ∷ 55 ∷ 59 ∷ 60 ∷ (own_needed q ++ (8060 ∷ []))
needed q Replacement = 11 ∷ 21 ∷ 38 ∷ 40 ∷ 41 ∷ 44 ∷ 54 ∷ 55 ∷ 60 ∷ []
needed q Cancel = 11 ∷ 41 ∷ 54 ∷ 55 ∷ 60 ∷ []
needed q Unknown = []

-- the tags that it may have besides
abbrev pub optional : Instrument → Kind → List ℕ
optional q NewOrder = 1 ∷ 109 ∷ 110 ∷ own_optional q
optional q Replacement = []
optional q Cancel = 38 ∷ []
optional q Unknown = []

-- t is one of the numbers ts
unfoldable pub one_of : ℕ → List ℕ → Bool
one_of t [] = false
one_of t (u ∷ us) = eqb t u || one_of t us

-- a message of the type k may have the tag t
unfoldable pub belongs : Instrument → Kind → ℕ → Bool
belongs q k t = one_of t (needed q k) || one_of t (optional q k)

-- a message of some type may have the tag t
unfoldable pub listed : Instrument → ℕ → Bool
listed q t = belongs q NewOrder t || belongs q Replacement t || belongs q Cancel t

-- ---- shapes and values

-- what a value is: a text of 1 to n characters; 1 to n digits; 1 to n digits, not 0; a yield or a price, by what is traded; a time;
-- one of some characters
pub data Shape : Type 0 where
  Text : ℕ → Shape
  Digits : ℕ → Shape
  Amount : ℕ → Shape
  Quote : Instrument → Shape
  Time : Shape
  Among : List ℕ → Shape
  Unlisted : Shape

-- 55: the code of a bond is digits, that of a share any characters
abbrev pub code_shape : Instrument → Shape
code_shape Bonds = Digits 9
code_shape Equities = Text 9

-- 54: 1 buys and 2 sells; of equities 5 and 6 sell too, short
abbrev pub side_shape : Instrument → Shape
side_shape Bonds = Among (bytes "12")
side_shape Equities = Among (bytes "1256")

-- 544 and 8214, of equities alone
abbrev pub cash_shape : Instrument → Shape
cash_shape Bonds = Unlisted
cash_shape Equities = Among (bytes "123")

abbrev pub margin_shape : Instrument → Shape
margin_shape Bonds = Unlisted
margin_shape Equities = Among (bytes "12")

-- the shape of each tag's value
unfoldable pub shape_of : Instrument → ℕ → Shape
shape_of q t =
    cond (one_of t (1 ∷ [])) (Text 10)
    (cond (one_of t (11 ∷ 41 ∷ [])) (Text 32)
    (cond (one_of t (55 ∷ [])) (code_shape q)
    (cond (one_of t (38 ∷ 110 ∷ [])) (Amount 9)
    (cond (one_of t (109 ∷ [])) (Amount 6)
    (cond (one_of t (44 ∷ [])) (Quote q)
    (cond (one_of t (60 ∷ [])) Time
    (cond (one_of t (21 ∷ [])) (Among (bytes "1"))
    (cond (one_of t (40 ∷ [])) (Among (bytes "2"))
    (cond (one_of t (47 ∷ [])) (Among (bytes "AP"))
    (cond (one_of t (54 ∷ [])) (side_shape q)
    (cond (one_of t (59 ∷ [])) (Among (bytes "034"))
    (cond (one_of t (8060 ∷ [])) (Among (bytes "13456"))
    (cond (one_of t (544 ∷ [])) (cash_shape q)
    (cond (one_of t (8214 ∷ [])) (margin_shape q) Unlisted))))))))))))))

-- the number that one character says: a digit itself, another its code
unfoldable pub char_says : ℕ → ℕ
char_says c = cond (is_digit c) (c - byte "0") c

-- digits, of whatever value: the place where they stand
abbrev pub digits_at : ℕ → Option ℕ → Judged
digits_at at (Some n) = Ok at
digits_at at None = Err IncorrectDataFormat

-- an amount is not 0
abbrev pub amount_of : Option ℕ → Judged
amount_of (Some n) = cond (eqb n 0) (Err ValueIncorrect) (Ok n)
amount_of None = Err IncorrectDataFormat

-- what a value of a shape says, where it stands at place `at` of the message, or that it is of another shape or another value
unfoldable pub look_as : ℕ → Shape → List ℕ → Judged
look_as at (Text n) v = cond (leb 1 (length v) && leb (length v) n) (Ok at) (Err IncorrectDataFormat)
look_as at (Digits n) v = digits_at at (num_of n v)
look_as at (Amount n) v = amount_of (num_of n v)
look_as at (Quote q) v = ok_or (level_of q v) IncorrectDataFormat
look_as at Time v = cond (time_shaped v) (cond (time_ranged v) (Ok at) (Err ValueIncorrect)) (Err IncorrectDataFormat)
look_as at (Among cs) v =
    cond (eqb (length v) 1) (cond (one_of (get_or v 0 0) cs) (Ok (char_says (get_or v 0 0))) (Err ValueIncorrect)) (Err IncorrectDataFormat)
look_as at Unlisted v = Err UndefinedTag

-- ---- a field of a body b, which stands at place `from` of the message

-- where the value of a field stands in the message, and its bytes
abbrev pub place_in : ℕ → Fld → ℕ
place_in from f = from + f.start

abbrev pub value_in : List ℕ → Fld → List ℕ
value_in b f = part_at b f.start f.len

-- a field of a message of the type k: a tag that is not listed, then one of another type, then no value, then what the value says
unfoldable pub judge : Instrument → Kind → List ℕ → ℕ → Fld → Judged
judge q k b from f =
    cond (not (listed q f.tag)) (Err UndefinedTag)
    (cond (not (belongs q k f.tag)) (Err TagNotDefined)
    (cond (eqb f.len 0) (Err TagWithoutValue)
    (look_as (place_in from f) (shape_of q f.tag) (value_in b f))))

-- the verdict on a field, or else on those after it
abbrev pub or_else : Judged → ℕ → Verdict → Verdict
or_else (Ok n) t rest = rest
or_else (Err r) t rest = Err (record { reason = r; tag = t })

-- the first field from the left that fails
unfoldable pub first_failing : Instrument → Kind → List ℕ → ℕ → List Fld → Verdict
first_failing q k b from [] = Ok tt
first_failing q k b from (f ∷ fs) = or_else (judge q k b from f) f.tag (first_failing q k b from fs)

-- ---- fields against each other: `has` tells which tags a message has, and `says` what the value of each says

-- 110, the least that a new order takes, goes with 59=3 alone and is not above 38. Where 59 or 38 is not there, nothing is said
-- of it.
unfoldable pub minimum_clashes : (ℕ → Bool) → (ℕ → ℕ) → Bool
minimum_clashes has says =
    has 110 && ((has 59 && (eqb (says 59) 0 || eqb (says 59) 4)) || (has 38 && ltb (says 38) (says 110)))

-- 8214, how the margin of an equities order is lent, says nothing of one that is paid in cash, 544=1. Where 544 is not there, nothing
-- is said of it.
unfoldable pub margin_clashes : Instrument → (ℕ → Bool) → (ℕ → ℕ) → Bool
margin_clashes Bonds has says = false
margin_clashes Equities has says = has 8214 && has 544 && eqb (says 544) 1

-- the first tag whose value clashes with others: a row for each test, with the tag that it refuses
unfoldable pub first_clashing : Instrument → (ℕ → Bool) → (ℕ → ℕ) → Option ℕ
first_clashing q has says =
    cond (minimum_clashes has says) (Some 110)
    (cond (margin_clashes q has says) (Some 8214)
    None)

-- ---- tags that a message lacks

-- the first of the tags ts that no field has
unfoldable pub first_missing : List ℕ → List Fld → Option ℕ
first_missing [] fs = None
first_missing (t ∷ ts) fs = cond (has_tag t fs) (first_missing ts fs) (Some t)
