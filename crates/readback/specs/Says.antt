-- What a report that was read says in numbers (document 01, "The reports"; document 02, T-08): 37, 38, 14, 151, 32, 378, .. by their
-- tags. Assumes nothing.
use Rattle.std.specs.Prelude.{ℕ, ◌-◌, ◌≡◌, cond, List, [], ◌∷◌, eqb}
use Rattle.octets.specs.Characters.{byte}
use Rattle.decimal.specs.declared.Instrument.{Instrument}
use Rattle.decimal.specs.declared.Instrument.TheVariants.{Bonds, Equities}
use Rattle.decimal.specs.Reading.{is_digit}
use Rattle.matching.specs.Matching.{open_of}
use Rattle.report.specs.declared.Value.{Value}
use Rattle.report.specs.declared.Value.TheVariants.{Absent, Number, Char, Word, Sent, Stored, Level, Mean}
use Rattle.report.specs.declared.Field.{Field}
use Rattle.report.specs.declared.Reading.{Reading}
use Rattle.rows.specs.declared.Stamp.{Stamp}
use Rattle.rows.specs.declared.Shown.{Shown}
use Rattle.rows.specs.declared.Fill.{Fill}

-- the number that a value is, a character that is a digit being one; 0 where it is none, as NONE, a text, a yield, a price or nothing
abbrev pub number_of : Value → ℕ
number_of Absent = 0
number_of (Number n) = n
number_of (Char c) = cond (is_digit c) (c - byte "0") 0
number_of (Word w x y z) = 0
number_of (Sent from len) = 0
number_of (Stored from len) = 0
number_of (Level q level) = 0
number_of (Mean q mean) = 0

-- the number of the first field with this tag, and 0 where there is none
abbrev pub says_in : ℕ → List Field → ℕ
says_in tag [] = 0
says_in tag (f ∷ fs) = cond (eqb f.tag tag) (number_of f.value) (says_in tag fs)

-- the number that a reading has for this tag
unfoldable pub says : ℕ → Reading → ℕ
says tag r = says_in tag r.fields

-- ---- what the report of an order says of it: 34 and 17, 37, 38, 14, 151, 54 as it was sent, 59, 109, which is 0 where it has no MPID,
-- 110, which is 0 where it has no MinQty, 544 and 8214, which are 0 where it has no CashMargin or MarginTransactionType, as in bonds
pub record SaysOrder (r : Reading) (s : Stamp) (o : Shown) : Type 0 where
  pub says_34 : says 34 r ≡ s.number
  pub says_17 : says 17 r ≡ s.number
  pub says_37 : says 37 r ≡ o.orderid
  pub says_38 : says 38 r ≡ o.order.qty
  pub says_14 : says 14 r ≡ o.order.executed
  pub says_151 : says 151 r ≡ open_of o.order
  pub says_54 : says 54 r ≡ o.order.side
  pub says_59 : says 59 r ≡ o.order.tif
  pub says_109 : says 109 r ≡ o.order.mpid
  pub says_110 : says 110 r ≡ o.order.minqty
  pub says_544 : says 544 r ≡ o.cash
  pub says_8214 : says 8214 r ≡ o.margin

-- 375 of a trade with an order of this MPID, which equities do not show
abbrev pub other_said : Instrument → ℕ → ℕ
other_said Bonds mpid = mpid
other_said Equities mpid = 0

-- what a Trade says of its fill: 32, 375, 851 and 880
pub record SaysFill (q : Instrument) (r : Reading) (f : Fill) : Type 0 where
  pub says_32 : says 32 r ≡ f.quantity
  pub says_375 : says 375 r ≡ other_said q f.other
  pub says_851 : says 851 r ≡ f.liquidity
  pub says_880 : says 880 r ≡ f.first
