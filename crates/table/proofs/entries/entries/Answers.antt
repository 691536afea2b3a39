-- `table::entries` meets its contract: among the entries passed none is the one that is sought.
use mathlib.Core.Path.{◌≡◌, sym, ◌∙◌}
use native.Mathlib.Omega.{arith}
use borrow.Author.Tests.{eq-eqb, ne_eqb}
use Rattle.octets.proofs.Ranges.{sought_none, sought_more, sought_here, sought_end}
use Rattle.table.specs.Heading.{entries}
use Rattle.table.proofs.entries.entries.Goals as goal

pub loop-k-init : goal.loop-k-init
loop-k-init c = sought_none

pub returns-then-mpid_at-eq0 : goal.returns-then-mpid_at-eq0
unfolding entries
returns-then-mpid_at-eq0 c = (sought_here c.loop-k.invariant c.loop-k-test.true (eq-eqb _ _ (sym c.mpid_at.ensures.0 ∙ c.if-mpid_at-eq0.true)), omega arith)

pub loop-k-preserved : goal.loop-k-preserved
loop-k-preserved c = sought_more c.loop-k.invariant c.loop-k-test.true (ne_eqb _ _ (λ e. c.if-mpid_at-eq0.false (c.mpid_at.ensures.0 ∙ e)))

pub returns : goal.returns
unfolding entries
returns c =
    let e : c.loop-k.k ≡ 8 = omega arith in
    (sym e ∙ sought_end c.loop-k.invariant (omega arith), omega arith)
