-- Numbers and texts at places of a list of bytes. A number is little endian, of any width; a text is a length byte, its
-- bytes, and zeros up to the room it has. Places count from 0. What lies past the end of the list reads as 0 and is not
-- written. Assumes nothing.
use Rattle.std.specs.Prelude.{Bool, true, false, ◌&&◌, List, [], ◌∷◌, ◌++◌, ℕ, zero, suc, ◌+◌, ◌*◌, ◌-◌, ◌/◌, ◌%◌, ◌<◌, eqb, length, get_or, take, drop, replicate}
use Rattle.std.proofs.lemmas.List.Edits.{sets}

-- the number whose n bytes, the least first, start at place p of t
unfoldable pub le_at : ℕ → List ℕ → ℕ → ℕ
le_at zero t p = 0
le_at (suc n) t p = get_or t p 0 + 256 * le_at n t (p + 1)

-- the n bytes of v, the least first
unfoldable pub bytes_of : ℕ → ℕ → List ℕ
bytes_of zero v = []
bytes_of (suc n) v = v % 256 ∷ bytes_of n (v / 256)

-- t with the bytes vs from place p on
unfoldable pub put : List ℕ → ℕ → List ℕ → List ℕ
put t p vs = sets t p vs

-- n bytes of t from place p on, or as many as there are
unfoldable pub part_at : List ℕ → ℕ → ℕ → List ℕ
part_at t p n = take n (drop p t)

-- the text at place p of t
unfoldable pub text_at : List ℕ → ℕ → List ℕ
text_at t p = part_at t (p + 1) (get_or t p 0)

-- a text as it is stored where there is room for n characters
unfoldable pub text_bytes : ℕ → List ℕ → List ℕ
text_bytes n xs = length xs ∷ (xs ++ replicate (n - length xs) 0)

-- t with a text at place p, where there is room for n characters
abbrev pub put_text : ℕ → List ℕ → ℕ → List ℕ → List ℕ
put_text n t p xs = put t p (text_bytes n xs)

-- two lists of bytes are the same
unfoldable pub same_bytes : List ℕ → List ℕ → Bool
same_bytes [] [] = true
same_bytes [] (y ∷ ys) = false
same_bytes (x ∷ xs) [] = false
same_bytes (x ∷ xs) (y ∷ ys) = eqb x y && same_bytes xs ys

-- every byte is zero
unfoldable pub all_zero : List ℕ → Bool
all_zero [] = true
all_zero (x ∷ xs) = eqb x 0 && all_zero xs

-- every element is a byte
abbrev pub Bytes : List ℕ → Type 0
Bytes t = (k : ℕ) → get_or t k 0 < 256
