-- Rows of bounds, by which the check of a table tests a text with its room in one pass; and what it asks behind the last MPID. Nothing
-- here need be believed: the laws show that the answers are those of Market. Assumes nothing.
use Rattle.std.specs.Prelude.{◌≡◌, ℕ, ◌+◌, ◌-◌, ◌*◌, ◌<◌, Bool, ◌&&◌, List, length, replicate, nat_le, slice_index}
use Rattle.octets.specs.Octets.{put, part_at, all_zero}
use Rattle.table.specs.Places.{mpids_byte, modes_byte, most_mpids}
use Rattle.table.specs.Market.{every}

-- x for each of 32 characters, and 0 for the room behind them: from place 32 - n on, it is a row for a text of n
unfoldable pub bounds_of : ℕ → List ℕ
bounds_of x = put (replicate 64 0) 0 (replicate 32 x)

-- the bound of a row
abbrev pub bound : List ℕ → ℕ
bound row = slice_index row 0

-- two rows: that of the lowest byte of a character, and that of how far above it the highest is
pub record AreRows (low span : List ℕ) : Type 0 where
  pub low_is : low ≡ bounds_of (bound low)
  pub low_long : length low ≡ 64
  pub span_is : span ≡ bounds_of (bound span)
  pub span_long : length span ≡ 64
  pub bytes : bound low + bound span < 256

-- within the bounds of two rows
abbrev pub between : List ℕ → List ℕ → ℕ → Bool
between low span x = nat_le (bound low) x && nat_le x (bound low + bound span)

-- of the room bytes from place p on, n are within the bounds, and zeros stand behind them
unfoldable pub is_filled : List ℕ → List ℕ → ℕ → List ℕ → ℕ → ℕ → Bool
is_filled low span room t p n = every (between low span) (part_at t p n) && all_zero (part_at t (p + n) (room - n))

-- from entry k on there is no MPID and no mode
unfoldable pub list_ends : List ℕ → ℕ → Bool
list_ends t k = all_zero (part_at t (mpids_byte + 4 * k) (4 * (most_mpids - k))) && all_zero (part_at t (modes_byte + k) (most_mpids - k))
