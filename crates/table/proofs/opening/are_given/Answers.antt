-- `table::opening::are_given` meets its contract: the lists are of one length, and every entry looked at is good.
use mathlib.Core.Path.{refl, sym, ◌∙◌}
use native.Mathlib.Omega.{arith}
use Rattle.octets.proofs.Ranges.{passed_none, passed_more, passed_stop, passed_end}
use Rattle.table.proofs.Settings.{counts_same, given_not, given_stop, given_all}
use Rattle.table.proofs.opening.are_given.Goals as goal

pub returns-then-not-n-modes : goal.returns-then-not-n-modes
returns-then-not-n-modes c = given_not _ _ (c.if-not-n-modes.true)

pub loop-k-init : goal.loop-k-init
loop-k-init c = (refl, c.if-not-n-modes.false, passed_none)

pub is_given-requires : goal.is_given-requires
is_given-requires c = (omega arith, omega (arith, counts_same c.args.mpids.now c.args.modes.now c.loop-k.invariant.1))

pub returns-then-not-is_given : goal.returns-then-not-is_given
returns-then-not-is_given c =
    let l = c.loop-k.invariant in
    given_stop _ _ l.1 (passed_stop l.2 (omega arith) (sym c.is_given.ensures ∙ c.if-not-is_given.true))

pub loop-k-preserved : goal.loop-k-preserved
loop-k-preserved c =
    let l = c.loop-k.invariant in
    (refl, l.1, passed_more l.2 (omega arith) (sym c.is_given.ensures ∙ c.if-not-is_given.false))

pub returns : goal.returns
returns c = given_all _ _ c.loop-k.invariant.1 (passed_end c.loop-k.invariant.2 (omega arith))
