-- Taking members apart one by one: what holds before each turn, that it holds at the start and after a turn, and what it says at the end.
use mathlib.Core.Path.{◌≡◌}
use mathlib.Core.List.{List, ◌∷◌}
use Prim.Native.Nat.{ℕ, suc, ◌+◌, ◌≤◌, ◌<◌}
use native.Mathlib.Numerals.{add-one}
use lib.ListN.{length, get_or, set, drop, replicate, drop_of_length-le}
use lib.Seq.{sets, drop-cons}
use Rattle.members.specs.Members.{mpids_of, modes_of}
use Rattle.members.specs.Apart.{in_nine}
use Rattle.members.specs.declared.Member.{Member}

-- what stands past the end of a list of members
abbrev nobody : Member
nobody = record { mpid = 0; mode = 0 }

-- with k members written, writing the others behind them gives the whole
pub record Going (ms : List Member) (mpids modes : List ℕ) (k : ℕ) : Type 0 where
  pub mpids_left : sets mpids k (mpids_of (drop k ms)) ≡ in_nine (mpids_of ms)
  pub modes_left : sets modes k (modes_of (drop k ms)) ≡ in_nine (modes_of ms)

pub starts : {ms : List Member} {mpids modes : List ℕ} → mpids ≡ replicate 9 0 → modes ≡ replicate 9 0 → Going ms mpids modes 0
starts e f = record { mpids_left = rw e; modes_left = rw f }

module _ {ms : List Member} {mpids modes : List ℕ} {k : ℕ} (g : Going ms mpids modes k) where
  pub goes_on : k < length ms → Going ms (set mpids k (get_or ms k nobody).mpid) (set modes k (get_or ms k nobody).mode) (k + 1)
  goes_on l =
      let d : drop k ms ≡ get_or ms k nobody ∷ drop (suc k) ms = drop-cons ms k nobody l in
      record { mpids_left = rw add-one (rw d at g.mpids_left); modes_left = rw add-one (rw d at g.modes_left) }

  pub mpids_end : length ms ≤ k → mpids ≡ in_nine (mpids_of ms)
  mpids_end l = rw (drop_of_length-le ms {i = k} l) at g.mpids_left

  pub modes_end : length ms ≤ k → modes ≡ in_nine (modes_of ms)
  modes_end l = rw (drop_of_length-le ms {i = k} l) at g.modes_left
