-- `copy` meets its contract: one return a refusal, in their order.
use Rattle.feed.proofs.Answers.{no_room, no_report, bad_setting, spent, not_copied, next_fits, client_short, row_room, area_room, copied}
use Rattle.feed.proofs.copy.Goals as goal

pub returns-then-area-lt1024 : goal.returns-then-area-lt1024
returns-then-area-lt1024 c = no_room _ _ _ _ _ _ _ _ c.if-area-lt1024.true

pub returns-then-is_none : goal.returns-then-is_none
returns-then-is_none c = no_report _ _ _ _ _ _ _ _ c.if-area-lt1024.false _ c.read-reading.ensures _ c.is_none.ensures c.if-is_none.true

pub returns-then-not-is_setting : goal.returns-then-not-is_setting
returns-then-not-is_setting c = bad_setting _ _ _ _ _ _ _ _ c.if-area-lt1024.false _ c.read-reading.ensures _ c.is_none.ensures c.if-is_none.false _ c.is_setting.ensures c.if-not-is_setting.true

pub returns-then-next : goal.returns-then-next
returns-then-next c = spent _ _ _ _ _ _ _ _ c.if-area-lt1024.false _ c.read-reading.ensures _ c.is_none.ensures c.if-is_none.false _ c.is_setting.ensures c.if-not-is_setting.false c.if-next.true

pub write_copy-len-requires : goal.write_copy-len-requires
write_copy-len-requires c =
    let s = c.args in
    record {
      group_len_bound = client_short _ _ _ _ _ _ s.next s.area.now c.if-area-lt1024.false _ c.read-reading.ensures _ c.is_none.ensures c.if-is_none.false _ c.is_setting.ensures c.if-not-is_setting.false c.if-next.false _ c.is_copied.ensures;
      fields_len_bound = row_room _ _ _ _ _ _ s.next s.area.now c.if-area-lt1024.false _ c.read-reading.ensures _ c.is_none.ensures c.if-is_none.false _ c.is_setting.ensures c.if-not-is_setting.false c.if-next.false _ c.is_copied.ensures;
      in_bounds = area_room _ _ _ _ _ _ s.next s.area.now c.if-area-lt1024.false _ c.read-reading.ensures _ c.is_none.ensures c.if-is_none.false _ c.is_setting.ensures c.if-not-is_setting.false c.if-next.false _ c.is_copied.ensures;
    }

pub overflow_add-result : goal.overflow_add-result
overflow_add-result c =
    let s = c.args in
    next_fits _ _ _ _ _ _ s.next s.area.now c.if-area-lt1024.false _ c.read-reading.ensures _ c.is_none.ensures c.if-is_none.false _ c.is_setting.ensures c.if-not-is_setting.false c.if-next.false _ c.is_copied.ensures

pub returns-then-is_copied : goal.returns-then-is_copied
returns-then-is_copied c =
    let s = c.args in
    copied _ _ _ _ _ _ s.next s.area.now c.if-area-lt1024.false _ c.read-reading.ensures _ c.is_none.ensures c.if-is_none.false _ c.is_setting.ensures c.if-not-is_setting.false c.if-next.false _ c.is_copied.ensures c.if-is_copied.true _ _ c.write_copy-len.ensures

pub returns : goal.returns
returns c = not_copied _ _ _ _ _ _ _ _ c.if-area-lt1024.false _ c.read-reading.ensures _ c.is_none.ensures c.if-is_none.false _ c.is_setting.ensures c.if-not-is_setting.false c.if-next.false _ c.is_copied.ensures c.if-is_copied.false
