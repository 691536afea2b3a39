-- `parse::value_end` meets its contract. The invariant: the SOH is as far as it was.
use Rattle.report.proofs.Walks.{soh_end, soh_here, soh_on}
use native.Mathlib.Omega.{arith}
use Rattle.report.proofs.parse.value_end.Goals as goal

pub returns-then-s-e-eq1 : goal.returns-then-s-e-eq1
returns-then-s-e-eq1 c = let l = c.loop-e in let s = c.args.s.now in omega (arith, l.invariant, soh_here s l.e (omega arith) c.if-s-e-eq1.true)

pub loop-e-preserved : goal.loop-e-preserved
loop-e-preserved c = let l = c.loop-e in let s = c.args.s.now in omega (arith, l.invariant, soh_on s l.e (omega arith) c.if-s-e-eq1.false)

pub returns : goal.returns
returns c = let l = c.loop-e in let s = c.args.s.now in omega (arith, l.invariant, soh_end s l.e (omega arith))
