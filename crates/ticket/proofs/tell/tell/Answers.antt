-- `tell::tell` meets its contract: the body in its place, closed.
use mathlib.Core.Path.{ap, ◌∙◌}
use Rattle.octets.proofs.Runs.{wrote_length}
use Rattle.ticket.specs.Tickets.{shown_on}
use Rattle.ticket.proofs.Short.{legible_ready}
use Rattle.ticket.proofs.Told.{body_sound, body_room, body_low, body_high, body_long, told}
use Rattle.ticket.proofs.tell.tell.Goals as goal

pub stamp_on-s-requires : goal.stamp_on-s-requires
stamp_on-s-requires c = c.requires.legible.heading.long

pub shown_on-o-requires : goal.shown_on-o-requires
shown_on-o-requires c = (c.requires.legible.heading.long, rw c.order_of-i.ensures c.requires.legible.order.high)

pub told_of-v-requires : goal.told_of-v-requires
told_of-v-requires c = (legible_ready c.args.t.now c.args.message.now _ c.args.c _ c.requires.legible, c.order_of-i.ensures, c.shown_on-o.ensures ∙ ap (shown_on c.args.t.now) c.order_of-i.ensures)

pub put_execution-end-requires : goal.put_execution-end-requires
put_execution-end-requires c = record { sound = body_sound c.args.t.now c.args.message.now c.args.n c.args.c c.args.e _ _ _ _ c.stamp_on-s.ensures c.order_of-i.ensures c.shown_on-o.ensures c.told_of-v.ensures c.requires.legible; room = body_room c.args.t.now c.args.message.now c.args.n c.args.c c.args.e _ _ _ _ c.stamp_on-s.ensures c.order_of-i.ensures c.shown_on-o.ensures c.told_of-v.ensures c.requires.legible _ c.requires.in_bounds }

pub close-requires : goal.close-requires
close-requires c = (body_low c.args.t.now c.args.message.now c.args.n c.args.c c.args.e _ _ _ _ c.stamp_on-s.ensures c.order_of-i.ensures c.shown_on-o.ensures c.told_of-v.ensures c.requires.legible c.put_execution-end.ensures c.requires.in_bounds, body_high c.args.t.now c.args.message.now c.args.n c.args.c c.args.e _ _ _ _ c.stamp_on-s.ensures c.order_of-i.ensures c.shown_on-o.ensures c.told_of-v.ensures c.requires.legible c.put_execution-end.ensures c.requires.in_bounds, body_long c.args.t.now c.args.message.now c.args.n c.args.c c.args.e _ _ _ _ c.stamp_on-s.ensures c.order_of-i.ensures c.shown_on-o.ensures c.told_of-v.ensures c.requires.legible c.put_execution-end.ensures c.requires.in_bounds)

pub returns : goal.returns
returns c = told c.args.t.now c.args.message.now c.args.n c.args.c c.args.e _ _ _ _ c.stamp_on-s.ensures c.order_of-i.ensures c.shown_on-o.ensures c.told_of-v.ensures c.requires.legible c.put_execution-end.ensures c.requires.in_bounds c.close.ensures

pub shape_of-out : goal.shape_of-out
shape_of-out c = wrote_length (returns c)
