-- What the value of a field may be where a report is read, and what it then is: document 01, "The reports", Read, and document
-- 02, T-08 (prices) and T-09 (37). A text is given as its place in the report. Assumes nothing.
use Rattle.std.specs.Prelude.{ℕ, Bool, true, false, cond, ◌||◌, List, [], ◌∷◌, ltb, eqb, length, get_or, Option, Some, None, option_map}
use Rattle.octets.specs.Octets.{same_bytes}
use Rattle.octets.specs.Characters.{bytes}
use Rattle.decimal.specs.declared.Instrument.{Instrument}
use Rattle.decimal.specs.Reading.{num_of, is_time}
use Rattle.decimal.specs.Canonical.{bare_of, within, level_in, mean_in}
use Rattle.report.specs.declared.Value.{Value}
use Rattle.report.specs.declared.Value.TheVariants.{Number, Char, Word, Sent, Level, Mean}
use Rattle.report.specs.declared.Shape.{Shape}
use Rattle.report.specs.declared.Shape.TheVariants as shape
use Rattle.report.specs.Fields.{word, word_bytes}

-- one of five characters
unfoldable pub one_in : ℕ → ℕ → ℕ → ℕ → ℕ → List ℕ → Option Value
one_in a b c d e v =
    cond (eqb (length v) 1)
    (cond (eqb (get_or v 0 0) a || eqb (get_or v 0 0) b || eqb (get_or v 0 0) c || eqb (get_or v 0 0) d || eqb (get_or v 0 0) e) (Some (Char (get_or v 0 0))) None)
    None

-- a number that is said
abbrev pub number_in : Option ℕ → Option Value
number_in said = option_map (λ n. Number n) said

-- one of eight numbers
abbrev pub listed_in : ℕ → ℕ → ℕ → ℕ → ℕ → ℕ → ℕ → ℕ → Option ℕ → Option Value
listed_in a b c d e f g h (Some n) =
    cond (eqb n a || eqb n b || eqb n c || eqb n d || eqb n e || eqb n f || eqb n g || eqb n h) (Some (Number n)) None
listed_in a b c d e f g h None = None

-- a word
unfoldable pub word_in : ℕ → ℕ → ℕ → ℕ → List ℕ → Option Value
word_in w x y z v = cond (same_bytes v (word_bytes w x y z)) (Some (Word w x y z)) None

-- an OrderID, 1 to 999,999,999, or NONE
unfoldable pub order_id_in : List ℕ → Option Value
order_id_in v = cond (same_bytes v (bytes "NONE")) (Some (word "NONE")) (number_in (within 1 999999999 (bare_of 9 v)))

-- every byte lies from low to 7E hex
abbrev pub all_from : ℕ → List ℕ → Bool
all_from low [] = true
all_from low (b ∷ v) = cond (ltb b low) false (cond (ltb 0x7e b) false (all_from low v))

-- 1 to most characters from low on
unfoldable pub text_in : ℕ → ℕ → ℕ → List ℕ → Option Value
text_in most low from v =
    cond (eqb (length v) 0) None (cond (ltb most (length v)) None (cond (all_from low v) (Some (Sent from (length v))) None))

-- a text that says a number, zeros and all
abbrev pub place_in : ℕ → ℕ → Option ℕ → Option Value
place_in from len said = option_map (λ n. Sent from len) said

-- a time
unfoldable pub time_in : ℕ → List ℕ → Option Value
time_in from v = cond (is_time v) (Some (Sent from (length v))) None

-- a yield or a price, as its level
abbrev pub quote_in : Instrument → Option ℕ → Option Value
quote_in q said = option_map (λ n. Level q n) said

-- AvgPx, as its mean
abbrev pub average_in : Instrument → Option ℕ → Option Value
average_in q said = option_map (λ n. Mean q n) said

-- the value v at a place, as a shape says
abbrev pub value_in : Shape → ℕ → List ℕ → Option Value
value_in shape.Nothing from v = None
value_in (shape.OneOf a b c d e) from v = one_in a b c d e v
value_in (shape.Range least most) from v = number_in (within least most (bare_of 9 v))
value_in (shape.Listed a b c d e f g h) from v = listed_in a b c d e f g h (bare_of 9 v)
value_in (shape.Exact w x y z) from v = word_in w x y z v
value_in shape.OrderId from v = order_id_in v
value_in (shape.Text most low) from v = text_in most low from v
value_in shape.Digits from v = place_in from (length v) (num_of 9 v)
value_in shape.Time from v = time_in from v
value_in (shape.Level q) from v = quote_in q (level_in q v)
value_in (shape.Average q) from v = average_in q (mean_in q v)
