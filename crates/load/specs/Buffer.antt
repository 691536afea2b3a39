-- Messages that lie one behind another in a buffer, each found by its own BodyLength (document 02, T-07). A message begins with 8=FIX.4.2 and
-- a field 9 of 1 to 4 digits; behind them lie as many bytes as 9 says, and the seven of field 10. Nothing else of it is looked at: what it
-- says, and whether it is garbled, is Submit's to tell. A buffer is the list of its bytes. Assumes nothing.
use Rattle.std.specs.Prelude.{Bool, cond, ◌&&◌, List, [], ◌∷◌, ℕ, zero, suc, ◌+◌, ◌-◌, eqb, leb, length, get_or, take, drop}
use Rattle.octets.specs.Characters.{soh, message}
use Rattle.octets.specs.Octets.{part_at, same_bytes}
use Rattle.decimal.specs.Reading.{digit_run, number, is_number}

-- ---- one message

-- what it begins with: field 8, and field 9 up to its value
abbrev pub beginning : List ℕ
beginning = message "8=FIX.4.2|9="

-- the digits of 9: all that stand behind the beginning
unfoldable pub nine_of : List ℕ → List ℕ
nine_of s = part_at s 12 (digit_run (drop 12 s))

-- s begins so, 9 has 1 to 4 digits, and SOH ends it
unfoldable pub says_length : List ℕ → Bool
says_length s = same_bytes (part_at s 0 12) beginning && is_number 4 (nine_of s) && eqb (get_or s (12 + length (nine_of s)) 0) soh

-- the length of the message: all up to and with that SOH, as many bytes as 9 says, and seven
unfoldable pub length_said : List ℕ → ℕ
length_said s = 12 + length (nine_of s) + 1 + number (nine_of s) + 7

-- s starts with a message: its length can be read, and all of it is there
unfoldable pub starts_message : List ℕ → Bool
starts_message s = says_length s && leb (length_said s) (length s)

-- ---- all of them

-- what lies in a buffer: its end; bytes whose length cannot be read; or a message, and what lies behind it
pub data Lying : Type 0 where
  End : Lying
  Unreadable : Lying
  Then : (first : List ℕ) (rest : Lying) → Lying

-- what lies in s but for its first k bytes, which are of the message before it
unfoldable pub lying_after : ℕ → List ℕ → Lying
lying_after k [] = End
lying_after (suc k) (b ∷ s) = lying_after k s
lying_after zero (b ∷ s) =
    cond (starts_message (b ∷ s))
    (Then (take (length_said (b ∷ s)) (b ∷ s)) (lying_after (length_said (b ∷ s) - 1) s))
    Unreadable

-- what lies in s
abbrev pub lying_in : List ℕ → Lying
lying_in s = lying_after 0 s
