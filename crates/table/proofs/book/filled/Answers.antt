-- `table::book::filled` meets its contract: at each turn the search from k on gives the whole search's answer.
use mathlib.Core.Path.{◌≡◌, sym, ◌∙◌}
use native.Mathlib.Omega.{arith}
use borrow.Author.Tests.{eq-eqb, ne_eqb}
use Rattle.table.specs.Orders.{filled}
use Rattle.octets.proofs.Ranges.{sought_none, sought_more, sought_here, sought_end}
use Rattle.table.proofs.book.filled.Goals as goal

pub loop-k-init : goal.loop-k-init
loop-k-init c = sought_none

pub returns-then-t-k-eq0 : goal.returns-then-t-k-eq0
unfolding filled
returns-then-t-k-eq0 c = (sought_here c.loop-k.invariant (omega arith) (eq-eqb _ _ c.if-t-k-eq0.true), omega arith)

pub loop-k-preserved : goal.loop-k-preserved
loop-k-preserved c = sought_more c.loop-k.invariant (omega arith) (ne_eqb _ _ c.if-t-k-eq0.false)

pub returns : goal.returns
unfolding filled
returns c =
    let e : c.loop-k.k ≡ 255 = omega arith in
    (sym e ∙ sought_end c.loop-k.invariant (omega arith), omega arith)
