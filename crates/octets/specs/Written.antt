-- Bytes written into an area from a place on: what a writer asks for, and what it leaves. Assumes nothing.
use Rattle.std.specs.Prelude.{◌≡◌, List, ℕ, ◌+◌, ◌≤◌, length}
use Rattle.octets.specs.Octets.{put}

-- there is room for the bytes from place at on
pub record Room (area : List ℕ) (at : ℕ) (bytes : List ℕ) : Type 0 where
  pub fits : at + length bytes ≤ length area

-- after is the area with the bytes from place at on, all else as it was; next is the place behind the last of them
pub record Wrote (area : List ℕ) (at : ℕ) (bytes : List ℕ) (next : ℕ) (after : List ℕ) : Type 0 where
  pub place : next ≡ at + length bytes
  pub bytes_in : after ≡ put area at bytes
