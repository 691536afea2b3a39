-- The paper's numbers of the refusals (document 01, "The table and its calls"; document 02, T-01 and T-12), and the number that a call answers.
use Rattle.std.specs.Prelude.{ℕ, Result, Ok, Err}
use Rattle.refusals.specs.declared.Refusal.{Refusal}
use Rattle.refusals.specs.declared.Refusal.TheVariants.{NoRoom, NoMarket, InWork, NumbersSpent, Garbled, BadSetting, BadSide, NoReport, BadLength, BadBlock, BadFeed}

abbrev pub number_of : Refusal → ℕ
number_of NoRoom = 1
number_of NoMarket = 2
number_of InWork = 3
number_of NumbersSpent = 4
number_of Garbled = 5
number_of BadSetting = 9
number_of BadSide = 10
number_of NoReport = 11
number_of BadLength = 12
number_of (BadBlock k) = 13
number_of BadFeed = 17

-- 0 of a call that is not refused, else the number of its refusal
abbrev pub answer_number : {T : Type 0} → Result T Refusal → ℕ
answer_number (Ok x) = 0
answer_number (Err refusal) = number_of refusal
