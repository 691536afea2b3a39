-- `table::entry_of` meets its contract: among the entries passed none is the one that is sought.
use mathlib.Core.Path.{◌≡◌, sym, ◌∙◌}
use native.Mathlib.Omega.{arith}
use borrow.Author.Tests.{eq-eqb, ne_eqb}
use Rattle.octets.proofs.Ranges.{sought_none, sought_more, sought_here, sought_end}
use Rattle.table.specs.Heading.{entry_of}
use Rattle.table.proofs.entries.entry_of.Goals as goal

pub loop-k-init : goal.loop-k-init
loop-k-init c = sought_none

pub returns-then-mpid_at-m : goal.returns-then-mpid_at-m
unfolding entry_of
returns-then-mpid_at-m c = (rw (← c.requires.1) (sought_here c.loop-k.invariant c.loop-k-test.true (eq-eqb _ _ (sym c.mpid_at.ensures.0 ∙ c.if-mpid_at-m.true))), omega arith)

pub loop-k-preserved : goal.loop-k-preserved
loop-k-preserved c = sought_more c.loop-k.invariant c.loop-k-test.true (ne_eqb _ _ (λ e. c.if-mpid_at-m.false (c.mpid_at.ensures.0 ∙ e)))

pub returns : goal.returns
unfolding entry_of
returns c =
    let e : c.loop-k.k ≡ c.args.n = omega arith in
    (sym e ∙ rw (← c.requires.1) (sought_end c.loop-k.invariant (omega arith)), omega arith)
