-- `audit::has_orders` meets its contract: the records passed are orders.
use Rattle.std.proofs.Common.{sym, ◌∙◌}
use Rattle.octets.proofs.Ranges.{passed_none, passed_more, passed_stop, passed_end}
use Rattle.table.specs.Market.{has_orders}
use Rattle.audit.proofs.sound.has_orders.Goals as goal

pub loop-k-init : goal.loop-k-init
loop-k-init c = passed_none

pub returns-then-not-is_order : goal.returns-then-not-is_order
unfolding has_orders
returns-then-not-is_order c =
    rw (← c.requires.4)
    (sym (passed_stop c.loop-k.invariant c.loop-k-test.true (sym c.is_order.ensures ∙ c.if-not-is_order.true)))

pub loop-k-preserved : goal.loop-k-preserved
loop-k-preserved c = passed_more c.loop-k.invariant c.loop-k-test.true (sym c.is_order.ensures ∙ c.if-not-is_order.false)

pub returns : goal.returns
unfolding has_orders
returns c = rw (← c.requires.4) (sym (passed_end c.loop-k.invariant c.loop-k-test.false))
