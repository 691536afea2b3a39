-- `octets::same` meets its contract: what is left to compare is the same exactly if the whole is.
use mathlib.Core.Path.{◌≡◌}
use lib.ListN.{drop}
use Rattle.octets.specs.Octets.{same_bytes}
use Rattle.octets.proofs.part.same.Given as goal

abbrev pub invariant-loop-i : goal.invariant-loop-i
invariant-loop-i l = same_bytes (drop l.i l.a) (drop l.i l.b) ≡ same_bytes l.a l.b
