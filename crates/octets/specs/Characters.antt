-- Characters and texts as bytes: a character in quotes stands for its byte, so that definitions and the paper read alike. Assumes
-- nothing.
use Rattle.std.specs.Prelude.{ℕ, zero, suc, cond, List, [], ◌∷◌, eqb}
use Prim.Native.Char.{Char, code}
use Prim.Native.String.{String, [] as none, ◌∷◌ as ◌then◌}

-- the byte of a character
abbrev pub byte : Char → ℕ
byte c = code c

-- the bytes of a text
abbrev pub bytes : String → List ℕ
bytes none = []
bytes (c then s) = byte c ∷ bytes s

-- the byte of character i of a text, counted from 0; that of its last one where it has fewer
abbrev pub byte_at : String → ℕ → ℕ
byte_at none i = 0
byte_at (c then none) i = byte c
byte_at (c then (d then s)) zero = byte c
byte_at (c then (d then s)) (suc i) = byte_at (d then s) i

-- SOH, which ends a field
abbrev pub soh : ℕ
soh = 0x01

-- the bytes of a message or a report as a person writes it: `|` stands for SOH
abbrev pub message : String → List ℕ
message none = []
message (c then s) = cond (eqb (byte c) (byte "|")) soh (byte c) ∷ message s
