-- When a message is garbled, and where the parts of one that is not stand. From "Reading a message" of document 01: length,
-- order of the fields, values of the header, BodyLength and CheckSum. Assumes nothing: every list of bytes is garbled or not.
use Rattle.std.specs.Prelude.{Option, Some, None, ℕ, ◌+◌, ◌-◌, ◌%◌, Bool, true, false, cond, not, ◌&&◌, List, [], ◌∷◌, length, take, ◌==◌, nat_le, nat_lt}
use Rattle.octets.specs.Characters.{bytes}
use Rattle.octets.specs.Octets.{same_bytes}
use Rattle.decimal.specs.Reading.{num_of, is_time}
use Rattle.fix.specs.declared.frame.Part.{Part}
use Rattle.fix.specs.declared.frame.Head.{Head}
use Rattle.fix.specs.Fields.{Fld, fields_of, find_tag, value_of, clean_fields, last_tag_or}

-- ---- order

-- the fields start with these tags, in this order
unfoldable pub headed_by : List ℕ → List Fld → Bool
headed_by [] fs = true
headed_by (t ∷ ts) [] = false
headed_by (t ∷ ts) (f ∷ fs) = f.tag == t && headed_by ts fs

-- the tags of the header, in their order
abbrev pub header : List ℕ
header = 8 ∷ 9 ∷ 35 ∷ 34 ∷ 49 ∷ 52 ∷ 56 ∷ []

-- nothing but fields, no tag twice, the header first and 10 last
unfoldable pub ordered : List Fld → Bool
ordered fs = clean_fields fs && headed_by header fs && last_tag_or 0 fs == 10

-- ---- what values say

-- the number that is said, and 0 where none is
abbrev pub said_of : Option ℕ → ℕ
said_of (Some n) = n
said_of None = 0

-- the number m is said
abbrev pub says_it : ℕ → Option ℕ → Bool
says_it m (Some n) = n == m
says_it m None = false

-- what 8 says
abbrev pub fix42 : List ℕ
fix42 = bytes "FIX.4.2"

-- the values of 8, 35, 34, 49, 52 and 56 are what a header may have
unfoldable pub header_right : List ℕ → Bool
header_right s =
    same_bytes (value_of s 8) fix42 && nat_le 1 (length (value_of s 35)) && nat_le (length (value_of s 35)) 2
    && nat_lt 0 (said_of (num_of 9 (value_of s 34))) && nat_le 1 (length (value_of s 49)) && is_time (value_of s 52)
    && nat_le 1 (length (value_of s 56))

-- ---- BodyLength and CheckSum

-- where the value that was found stands; nowhere is the empty part at 0
abbrev pub as_part : Option Part → Part
as_part (Some p) = p
as_part None = record { start = 0; len = 0 }

-- where the value of the tag t stands
unfoldable pub part_of : List ℕ → ℕ → Part
part_of s t = as_part (find_tag t (fields_of s))

-- the place behind the SOH of a field
unfoldable pub end_of : Part → ℕ
end_of p = p.start + p.len + 1

-- where field 10 starts: `10=` stands before its value
unfoldable pub ten_at : List ℕ → ℕ
ten_at s = (part_of s 10).start - 3

-- 9 says how many bytes there are behind field 9 and before field 10
unfoldable pub length_true : List ℕ → Bool
length_true s = says_it (ten_at s - end_of (part_of s 9)) (num_of 4 (value_of s 9))

-- the sum of the bytes
unfoldable pub sum_of : List ℕ → ℕ
sum_of [] = 0
sum_of (b ∷ s) = b + sum_of s

-- the CheckSum: the sum in one byte
unfoldable pub check_sum : List ℕ → ℕ
check_sum s = sum_of s % 256

-- 10 says the CheckSum of the bytes before it, in three digits
unfoldable pub sum_true : List ℕ → Bool
sum_true s = length (value_of s 10) == 3 && says_it (check_sum (take (ten_at s) s)) (num_of 3 (value_of s 10))

-- ---- garbled

unfoldable pub garbled_message : List ℕ → Bool
garbled_message s =
    not (nat_le 1 (length s) && nat_le (length s) 1024 && ordered (fields_of s) && header_right s && length_true s && sum_true s)

-- ---- the parts of a message that is not garbled: 35, 34 as a number, 49, 52, 56, and the fields between 56 and 10

unfoldable pub body_part : List ℕ → Part
body_part s = record { start = end_of (part_of s 56); len = ten_at s - end_of (part_of s 56) }

unfoldable pub head_of : List ℕ → Head
head_of s =
    record {
      kind = part_of s 35;
      number = said_of (num_of 9 (value_of s 34));
      sender = part_of s 49;
      time = part_of s 52;
      target = part_of s 56;
      body = body_part s;
    }

-- and none of one that is garbled
unfoldable pub frame_of : List ℕ → Option Head
frame_of s = cond (garbled_message s) None (Some (head_of s))
