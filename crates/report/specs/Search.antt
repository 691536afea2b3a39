-- How the first field with a tag is looked for, some bytes at a time. Nothing here need be believed: the contracts of `place_of` and of those
-- above it do not cite it.
use Rattle.std.specs.Prelude.{ℕ, ◌+◌, ◌≤◌, ◌≡◌, Bool, false, List, length, drop}
use Rattle.report.specs.Fields.{label}
use Rattle.report.specs.Parse.{place_of}

-- from within a field on, no field with the tag begins behind one of n bytes, unless it is said that one may
pub record Passes (tag : ℕ) (s : List ℕ) (at n : ℕ) (may : Bool) : Type 0 where
  pub none : may ≡ false → place_of (label tag) false (drop at s) ≡ n + place_of (label tag) false (drop (at + n) s)

-- from within a field on, none begins behind one of the bytes up to a place
pub record Cleared (tag : ℕ) (s : List ℕ) (at to : ℕ) : Type 0 where
  pub on : at ≤ to
  pub within : to ≤ length s
  pub none : at + place_of (label tag) false (drop at s) ≡ to + place_of (label tag) false (drop to s)
