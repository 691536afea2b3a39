-- `table::record::write_four` meets its contract: four stores in a row.
use native.Mathlib.Omega.{arith}
use lib.ListN.{length-set}
use Rattle.table.proofs.Writes.{four_written}
use Rattle.table.proofs.record.write_four.Goals as goal

pub bounds-t-p-2 : goal.bounds-t-p-2
bounds-t-p-2 c = simp length-set (omega arith)

pub bounds-t-p-3 : goal.bounds-t-p-3
bounds-t-p-3 c = simp length-set (omega arith)

pub bounds-t-p-4 : goal.bounds-t-p-4
bounds-t-p-4 c = simp length-set (omega arith)

pub returns : goal.returns
returns c = four_written _ _ _ _ _ _
