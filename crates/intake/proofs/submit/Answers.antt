-- `intake::submit` meets its contract: the four refusals in their order, then what the message asks.
use Rattle.intake.proofs.Answering.{no_room, no_market, market_long, in_work, numbers_spent, ready}
use borrow.Author.Rules.{rules}
use Rattle.std.proofs.Common.{ap, not}
use Rattle.intake.proofs.submit.Goals as goal

pub returns-then-area-lt1024 : goal.returns-then-area-lt1024
returns-then-area-lt1024 c =
    let s = c.args in
    let l = no_room s.q s.table.now s.message.now s.area.now c.if-area-lt1024.true in
    record { value = l.answers; table_after = l.table_is; area_after = l.area_is }

pub returns-then-not-is_market_of : goal.returns-then-not-is_market_of
returns-then-not-is_market_of c =
    let s = c.args in
    let l = no_market s.q s.table.now s.message.now s.area.now c.if-area-lt1024.false _ c.is_market_of.ensures (ap not c.if-not-is_market_of.true) in
    record { value = l.answers; table_after = l.table_is; area_after = l.area_is }

pub work-requires : goal.work-requires
work-requires c = search (rules, market_long)

pub returns-then-work-ne0 : goal.returns-then-work-ne0
returns-then-work-ne0 c =
    let s = c.args in
    let l =
    in_work s.q s.table.now s.message.now s.area.now c.if-area-lt1024.false _ c.is_market_of.ensures (ap not c.if-not-is_market_of.false) _
    c.work.ensures.0 c.if-work-ne0.true in
    record { value = l.answers; table_after = l.table_is; area_after = l.area_is }

pub next-requires : goal.next-requires
next-requires c = search (rules, market_long)

pub returns-then-next-gt999998976 : goal.returns-then-next-gt999998976
returns-then-next-gt999998976 c =
    let s = c.args in
    let l =
    numbers_spent s.q s.table.now s.message.now s.area.now c.if-area-lt1024.false _ c.is_market_of.ensures (ap not c.if-not-is_market_of.false) _
    c.work.ensures.0 c.if-work-ne0.false _ c.next.ensures c.if-next-gt999998976.true in
    record { value = l.answers; table_after = l.table_is; area_after = l.area_is }

pub hear-requires : goal.hear-requires
hear-requires c =
    let s = c.args in (
      ready s.q s.table.now s.message.now s.area.now c.if-area-lt1024.false _ c.is_market_of.ensures (ap not c.if-not-is_market_of.false) _
          c.work.ensures.0 c.if-work-ne0.false _ c.next.ensures c.if-next-gt999998976.false,
      search rules,
    )

pub returns : goal.returns
returns c = let l = c.hear.ensures in record { value = l.answers; table_after = l.table_is; area_after = l.area_is }
