-- `table::heading::put_work` meets its contract: the order, then the text behind it.
use native.Mathlib.Omega.{arith}
use lib.ListN.{length-set}
use Rattle.table.proofs.Writes.{work_written, work_length}
use borrow.Author.Rules.{rules}
use Rattle.table.proofs.heading.put_work.Goals as goal

pub put_text-requires : goal.put_text-requires
put_text-requires c = (simp length-set (omega arith), omega arith, omega arith)

pub shape_of-t : goal.shape_of-t
shape_of-t c = search (rules, work_length)

pub returns : goal.returns
returns c = search (rules, work_written)
