-- The members that a caller lends to Open (document 01, "The table and its calls": a lent list of MPIDs, each with its
-- mode), as the two lists of numbers that opening is defined on. Assumes nothing.
use Rattle.std.specs.Prelude.{ℕ, List, map}
use Rattle.members.specs.declared.Member.{Member}

-- the MPIDs of members, in their order
abbrev pub mpids_of : List Member → List ℕ
mpids_of ms = map (λ m. m.mpid) ms

-- their modes, in the same order
abbrev pub modes_of : List Member → List ℕ
modes_of ms = map (λ m. m.mode) ms
