-- Checks and blocks worked out apart from the definitions and then computed. They rule out: positions that count from 0; a check without the
-- block's number; a check with its high byte first; a last block that is filled up with anything but zeros, or not looked at.
use mathlib.Core.Path.{◌≡◌, refl}
use mathlib.Core.Bool.{true, false}
use mathlib.Core.List.{List, [], ◌∷◌, ◌++◌}
use Prim.Native.Nat.{ℕ}
use native.Mathlib.Omega.{arith}
use lib.ListN.{replicate}
use Rattle.octets.specs.Octets.{le_at, bytes_of, part_at, all_zero}
use Rattle.image.specs.Image.{weighed, check_of, block_data, block_of, data_in, check_in, filling_in, is_checked, is_good}

-- open the definitions that a block is computed with
computes : ℕ
unfolding le_at bytes_of part_at all_zero weighed check_of block_data block_of data_in check_in filling_in is_checked is_good
computes = 0

-- the first byte counts once: from 0 on it would not count
pub first_counts : check_of 0 (7 ∷ []) ≡ 7
unfolding computes
first_counts = refl

pub from_zero : weighed 0 (7 ∷ []) ≡ check_of 0 (7 ∷ []) → ⊥
unfolding computes
from_zero e = omega arith

-- block 1 has another check than block 0 with the same data
pub number_counts : check_of 1 (7 ∷ []) ≡ 33554439
unfolding computes
number_counts = refl

pub numberless : weighed 1 (7 ∷ []) ≡ check_of 1 (7 ∷ []) → ⊥
unfolding computes
numberless e = omega arith

-- the last block of a table of ones: 256 of them, 252 zeros, and the check 64 * 33,554,432 + 32,896, its low byte first
pub last_block : block_of (replicate 32768 1) 64 ≡ replicate 256 1 ++ replicate 252 0 ++ (128 ∷ 128 ∷ 0 ∷ 128 ∷ [])
unfolding computes
last_block = refl

-- an image of zeros, but for a one in the filling, at position 257 of the last block, and its check made right
abbrev filled : List ℕ
filled = replicate 33024 0 ++ (1 ∷ (replicate 251 0 ++ (1 ∷ 1 ∷ 0 ∷ 128 ∷ [])))

pub filled_checked : is_checked filled 64 ≡ true
unfolding computes
filled_checked = refl

pub filled_not : is_good filled 64 ≡ false
unfolding computes
filled_not = refl
