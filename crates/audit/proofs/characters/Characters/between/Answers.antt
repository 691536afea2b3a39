-- `audit::Characters::between` meets its contract.
use Rattle.std.proofs.Common.{arith}
use Rattle.audit.proofs.Filled.{rows_are}
use Rattle.audit.proofs.characters.Characters.between.Goals as goal

pub invariant_of-result : goal.invariant_of-result
invariant_of-result c = record { are_rows = rows_are _ _ _ _ c.bounds_of.ensures c.bounds_of-2.ensures (omega arith) }
