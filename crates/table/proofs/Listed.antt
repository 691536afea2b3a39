-- The list of MPIDs: whether one is listed, and its mode, by the entry at which a search found it.
use mathlib.Core.Path.{◌≡◌, ◌∙◌}
use mathlib.Core.Bool.{true, false}
use mathlib.Core.List.{List}
use Prim.Native.Nat.{ℕ, ◌≤◌, ◌<◌}
use lib.Dec.{ltb}
use borrow.Author.Tests.{lt-ltb, le-ltb}
use Rattle.table.specs.Heading.{mode_at, entries, entry_of, is_listed, mode_of}

-- whether an MPID is listed, and its mode, by the entry found among the n
module _ (t : List ℕ) (m n k : ℕ) where
  pub listed_at : n ≡ entries t → k ≡ entry_of t m → ltb k n ≡ is_listed t m
  unfolding is_listed
  listed_at e f = rw (e, f)

  pub mode_there : (r : ℕ) → n ≡ entries t → k ≡ entry_of t m → k < n → r ≡ mode_at t k → r ≡ mode_of t m
  unfolding mode_of is_listed
  mode_there r e f l h =
      let g : ltb (entry_of t m) (entries t) ≡ true = rw (e, f) at (lt-ltb k n l) in
      h ∙ rw (g, f)

  pub mode_missing : n ≡ entries t → k ≡ entry_of t m → n ≤ k → 0 ≡ mode_of t m
  unfolding mode_of is_listed
  mode_missing e f l =
      let g : ltb (entry_of t m) (entries t) ≡ false = rw (e, f) at (le-ltb k n l) in
      rw g
