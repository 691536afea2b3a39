-- `values::pick_listed` meets its contract.
use Rattle.report.proofs.values.pick_listed.Goals as goal

pub returns-then-n-a : goal.returns-then-n-a
returns-then-n-a c = rw (c.in_ok-n.was, c.if-n-a.true)

pub returns : goal.returns
returns c = rw (c.in_ok-n.was, c.if-n-a.false)
