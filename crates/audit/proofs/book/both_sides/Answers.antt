-- `audit::both_sides` meets its contract: s is both sides of the records passed, apart from order w.
use Rattle.std.proofs.Common.{arith}
use Rattle.audit.proofs.Walked.{swept_none, swept_more, swept_end, swept_roomy}
use Rattle.audit.proofs.book.both_sides.Goals as goal

pub loop-k-init : goal.loop-k-init
loop-k-init c = swept_none

pub with_record-s-requires : goal.with_record-s-requires
with_record-s-requires c = (c.requires.0, omega arith, swept_roomy c.loop-k.invariant (λ j. (c.type_inv.t j).fits) c.loop-k-test.true c.requires.2)

pub loop-k-preserved : goal.loop-k-preserved
loop-k-preserved c = swept_more _ c.loop-k.invariant c.requires.1 c.loop-k-test.true c.with_record-s.ensures

pub returns : goal.returns
returns c = swept_end c.loop-k.invariant c.loop-k-test.false
