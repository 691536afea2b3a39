-- `audit::is_fresh_id` meets its contract: no record passed has the ClOrdID.
use Rattle.std.proofs.Common.{sym}
use mathlib.Core.Path.{ap}
use Rattle.octets.proofs.Ranges.{passed_none, passed_more, passed_stop, passed_end}
use Rattle.table.specs.Market.{is_fresh_id}
use Rattle.audit.proofs.Marked.{id_old, id_other}
use Rattle.audit.proofs.Rooms.{id_same, id_differs}
use Rattle.audit.specs.declared.marks.Id.{Id}
use Rattle.audit.proofs.marks.is_fresh_id.Goals as goal

pub loop-i-init : goal.loop-i-init
loop-i-init c = passed_none

pub returns-then-eq : goal.returns-then-eq
unfolding is_fresh_id
returns-then-eq c =
    let k = c in
    sym (passed_stop c.loop-i.invariant c.loop-i-test.true
    (id_old _ k.requires.0 _ k.requires.1 k.requires.2 k.requires.3 (λ j. (k.type_inv.t j).fits) _ _ _ _ k.requires.4
    c.loop-i-test.true c.id_at-y.ensures c.id_at-x.ensures (id_same _ _ _ c.eq.ensures c.if-eq.true)))

pub loop-i-preserved-then-y-x : goal.loop-i-preserved-then-y-x
loop-i-preserved-then-y-x c =
    let k = c in
    passed_more c.loop-i.invariant c.loop-i-test.true
    (id_other _ k.requires.0 _ k.requires.1 k.requires.2 k.requires.3 (λ j. (k.type_inv.t j).fits) _ _ _ _ k.requires.4
    c.loop-i-test.true c.id_at-y.ensures c.id_at-x.ensures (λ e. c.if-y-x.true (ap (λ (z : Id). z.a) e)))

pub loop-i-preserved : goal.loop-i-preserved
loop-i-preserved c =
    let k = c in
    passed_more c.loop-i.invariant c.loop-i-test.true
    (id_other _ k.requires.0 _ k.requires.1 k.requires.2 k.requires.3 (λ j. (k.type_inv.t j).fits) _ _ _ _ k.requires.4
    c.loop-i-test.true c.id_at-y.ensures c.id_at-x.ensures (id_differs _ _ _ c.eq.ensures c.if-eq.false))

pub returns : goal.returns
unfolding is_fresh_id
returns c = sym (passed_end c.loop-i.invariant c.loop-i-test.false)
