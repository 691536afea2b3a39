-- `values::all_from` meets its contract. The invariant: what is left decides.
use mathlib.Core.Path.{◌≡◌}
use lib.ListN.{drop}
use Rattle.report.specs.Shapes.{all_from}
use Rattle.report.proofs.values.all_from.Given as goal

abbrev pub invariant-loop-b : goal.invariant-loop-b
invariant-loop-b l = all_from l.low l.v ≡ all_from l.low (drop l.b-index l.v)
