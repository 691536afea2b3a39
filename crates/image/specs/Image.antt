-- The image of a table that is kept overnight (document 02, T-12): 65 blocks of 512 bytes, each of 508 bytes of the table, zeros filling up
-- the last, and a check of 4 bytes. How it is written, which blocks are good, and what table is read from it. Blocks count from 0.
-- Assumes nothing.
use Rattle.std.specs.Prelude.{Bool, not, ◌&&◌, List, [], ◌∷◌, ◌++◌, ℕ, zero, suc, ◌+◌, ◌*◌, ◌-◌, eqb, take, drop, replicate}
use Rattle.octets.specs.Octets.{le_at, bytes_of, put, part_at, all_zero}
use Rattle.octets.specs.Tests.{first_from}
use Rattle.table.specs.Places.{table_bytes}

-- bytes of an image
abbrev pub image_bytes : ℕ
image_bytes = 33280

-- f 0, f 1 and so on, n of them, one behind the other
unfoldable pub in_turn : (ℕ → List ℕ) → ℕ → List ℕ
in_turn f zero = []
in_turn f (suc n) = in_turn f n ++ f n

-- each byte times its position, summed up; the first one's position is i
unfoldable pub weighed : ℕ → List ℕ → ℕ
weighed i [] = 0
weighed i (x ∷ xs) = i * x + weighed (i + 1) xs

-- the check of block k, if this is its data: positions count from 1
unfoldable pub check_of : ℕ → List ℕ → ℕ
check_of k d = weighed 1 d + k * 33554432

-- ---- writing

-- the data of block k of a table, which 252 zeros follow
unfoldable pub block_data : List ℕ → ℕ → List ℕ
block_data t k = part_at (t ++ replicate 252 0) (508 * k) 508

-- block k of a table: its data and, the least byte first, their check
unfoldable pub block_of : List ℕ → ℕ → List ℕ
block_of t k = block_data t k ++ bytes_of 4 (check_of k (block_data t k))

-- the image of a table
unfoldable pub image_of : List ℕ → List ℕ
image_of t = in_turn (block_of t) 65

-- ---- reading

-- block k of an image, its data, and its check
unfoldable pub block_in : List ℕ → ℕ → List ℕ
block_in image k = part_at image (512 * k) 512

unfoldable pub data_in : List ℕ → ℕ → List ℕ
data_in image k = part_at image (512 * k) 508

unfoldable pub check_in : List ℕ → ℕ → ℕ
check_in image k = le_at 4 image (512 * k + 508)

-- of the data, what belongs to the table, and the filling behind it, which only the last block has
unfoldable pub kept_in : List ℕ → ℕ → List ℕ
kept_in image k = take (table_bytes - 508 * k) (data_in image k)

unfoldable pub filling_in : List ℕ → ℕ → List ℕ
filling_in image k = drop (table_bytes - 508 * k) (data_in image k)

-- block k has the right check; and besides, its filling is zero
unfoldable pub is_checked : List ℕ → ℕ → Bool
is_checked image k = eqb (check_in image k) (check_of k (data_in image k))

unfoldable pub is_good : List ℕ → ℕ → Bool
is_good image k = is_checked image k && all_zero (filling_in image k)

-- the first block that is not good; 65 where all are
unfoldable pub first_bad : List ℕ → ℕ
first_bad image = first_from (λ k. not (is_good image k)) 0 65

-- the table in an image
unfoldable pub table_in : List ℕ → List ℕ
table_in image = in_turn (kept_in image) 65

-- ---- changing

-- an image with its blocks i and j exchanged
unfoldable pub exchanged : List ℕ → ℕ → ℕ → List ℕ
exchanged image i j = put (put image (512 * i) (block_in image j)) (512 * j) (block_in image i)
