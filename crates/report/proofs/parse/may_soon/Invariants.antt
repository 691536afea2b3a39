-- `parse::may_soon` meets its contract. The invariant: none begins behind the j bytes that were looked at, unless one was said to.
use Rattle.report.proofs.Walks.{Passing}
use Rattle.report.proofs.parse.may_soon.Given as goal

abbrev pub invariant-loop-j : goal.invariant-loop-j
invariant-loop-j l = Passing l.tag l.s l.at l.j l.any
