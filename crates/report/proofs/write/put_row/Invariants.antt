-- `write::put_row` meets its contract. The invariant: the first i fields are written.
use Prim.Native.Nat.{◌≤◌}
use mathlib.Core.Path.{◌≡◌}
use lib.ListN.{length, take}
use Rattle.octets.specs.Written.{Wrote}
use Rattle.report.specs.Fields.{row_bytes}
use Rattle.report.proofs.write.put_row.Given as goal

abbrev pub invariant-loop-i : goal.invariant-loop-i
invariant-loop-i l = (l.i ≤ 36) × (length l.row ≡ 36) × Wrote l.initial.out l.at (row_bytes l.sent l.stored (take l.i l.row)) l.o l.out
