-- `write::close` meets its contract: 8 and 9, the body behind them, and 10.
use Rattle.report.proofs.Writing.{front_room, front_place, front_long, moved_within, moved_lent, moved_fits, closing_room, closing}
use native.Mathlib.Omega.{arith}
use borrow.Author.Rules.{rules}
use Rattle.report.proofs.write.close.Goals as goal

pub put_front-at-requires : goal.put_front-at-requires
put_front-at-requires c = front_room _ _ (omega arith) (search rules)

pub move_to-requires : goal.move_to-requires
move_to-requires c = (front_place _ _ c.put_front-at.ensures (omega arith) c.requires.2, front_long _ _ c.put_front-at.ensures (omega arith) c.requires.2)

pub overflow_add-next : goal.overflow_add-next
overflow_add-next c = moved_fits _ _ c.put_front-at.ensures (omega arith) c.requires.2 c.move_to.ensures

pub slice_bounds-checksum-end : goal.slice_bounds-checksum-end
slice_bounds-checksum-end c = moved_within _ _ c.put_front-at.ensures (omega arith) c.requires.2 c.move_to.ensures

pub slice_bounds-checksum-end-2 : goal.slice_bounds-checksum-end-2
slice_bounds-checksum-end-2 c = moved_lent _ _ c.put_front-at.ensures (omega arith) c.requires.2 c.move_to.ensures

pub put_trailer-requires : goal.put_trailer-requires
put_trailer-requires c = closing_room _ _ c.put_front-at.ensures (omega arith) c.requires.2 c.move_to.ensures _ c.checksum-sum.ensures

pub returns : goal.returns
returns c = closing _ _ c.put_front-at.ensures (omega arith) c.requires.2 c.move_to.ensures _ c.checksum-sum.ensures c.put_trailer.ensures
