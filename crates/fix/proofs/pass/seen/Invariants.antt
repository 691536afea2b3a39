-- A tag in the row. Invariant: it is among the first n fields exactly if it is among those from the j-th on.
use Rattle.std.proofs.Common.{◌≡◌, ◌-◌}
use Rattle.fix.specs.Fields.{has_tag}
use Rattle.fix.specs.Steps.{row_fields}
use Rattle.fix.proofs.pass.seen.Given as goal

abbrev pub invariant-loop-j : goal.invariant-loop-j
invariant-loop-j l = has_tag l.tag (row_fields l.row 0 l.n) ≡ has_tag l.tag (row_fields l.row l.j (l.n - l.j))
