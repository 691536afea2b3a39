-- `image::column` meets its contract: the rows from r on are added up.
use borrow.Author.Rules.{rules}
use Rattle.image.proofs.Columned.{rows_none, rows_more, rows_sum, rows_turned}
use Rattle.image.proofs.weigh.column.Goals as goal

pub loop-r-init : goal.loop-r-init
loop-r-init c = rows_none

pub loop-r-preserved : goal.loop-r-preserved
loop-r-preserved c = rows_more c.loop-r.invariant c.loop-r-test.true c.from-sum.ensures (rw c.from-sum.ensures (c.type_inv.t _).fits)

pub returns : goal.returns
returns c = search (rules, rows_sum, rows_turned)
