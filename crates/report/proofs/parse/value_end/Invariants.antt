-- `parse::value_end` meets its contract. The invariant: the SOH is as far as it was.
use Prim.Native.Nat.{◌+◌}
use mathlib.Core.Path.{◌≡◌}
use lib.ListN.{drop}
use Rattle.report.specs.Parse.{len_to}
use Rattle.report.proofs.parse.value_end.Given as goal

abbrev pub invariant-loop-e : goal.invariant-loop-e
invariant-loop-e l = l.from + len_to (drop l.from l.s) ≡ l.e + len_to (drop l.e l.s)
