-- `ticket::shown_on` meets its contract, part by part.
use Prim.Native.Nat.{◌+◌, ◌*◌}
use lib.ListN.{get_or}
use mathlib.Core.Path.{ap}
use Rattle.table.specs.declared.record.Marks.{Marks}
use Rattle.table.specs.Orders.{marks_at}
use Rattle.ticket.specs.Tickets.{shown_on}
use Rattle.ticket.proofs.shown_on.Goals as goal

pub returns : goal.returns
unfolding shown_on marks_at
returns c =
    let a = c.args in
    let m = c.marks_at-marks.ensures in
    λ j. record { orderid = c.order_id-orderid.ensures.0 j; order = c.load-order.ensures j; capacity = get_or a.t.now (128 * a.i + 46) 0; class = ap (λ (x : Marks). x.class) m j; cash = ap (λ (x : Marks). x.cash) m j; margin = ap (λ (x : Marks). x.margin) m j; code = c.stored_at-code.ensures j; id = c.stored_at-id.ensures j; account = c.or_stored_at-account.ensures j }
