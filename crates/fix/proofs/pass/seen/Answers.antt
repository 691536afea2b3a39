-- A tag in the row. Invariant: it is among the first n fields exactly if it is among those from the j-th on.
use Rattle.std.proofs.Common.{rules}
use Rattle.fix.proofs.Rows.{seen_start, seen_here, seen_next, seen_end}
use Rattle.fix.proofs.pass.seen.Goals as goal

pub loop-j-init : goal.loop-j-init
loop-j-init c = search (rules, seen_start)

pub returns-then-row-j : goal.returns-then-row-j
returns-then-row-j c = search (rules, seen_here)

pub loop-j-preserved : goal.loop-j-preserved
loop-j-preserved c = search (rules, seen_next)

pub returns : goal.returns
returns c = search (rules, seen_end)
