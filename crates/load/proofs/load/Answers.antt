-- `load::load` meets its contract: the three refusals in their order, then the messages.
use Rattle.load.proofs.Answers.{no_room, no_market, market_long, in_work, idle_is, after_long, numbers_up, loaded_leaves}
use borrow.Author.Rules.{rules}
use Rattle.std.proofs.Common.{ap, not}
use Rattle.load.proofs.load.Goals as goal

pub returns-then-area-lt1024 : goal.returns-then-area-lt1024
returns-then-area-lt1024 c =
    let s = c.args in
    let l = no_room s.q s.table.now s.buffer.now s.area.now c.if-area-lt1024.true in
    record {
      value = l.answers;
      table_after = l.table_is;
      area_after = l.area_is;
    }

pub returns-then-not-is_market_of : goal.returns-then-not-is_market_of
returns-then-not-is_market_of c =
    let s = c.args in
    let l = no_market s.q s.table.now s.buffer.now s.area.now c.if-area-lt1024.false _ c.is_market_of.ensures (ap not c.if-not-is_market_of.true) in
    record {
      value = l.answers;
      table_after = l.table_is;
      area_after = l.area_is;
    }

pub work-requires : goal.work-requires
work-requires c = search (rules, market_long)

pub returns-then-work-ne0 : goal.returns-then-work-ne0
returns-then-work-ne0 c =
    let s = c.args in
    let l = in_work s.q s.table.now s.buffer.now s.area.now c.if-area-lt1024.false _ c.is_market_of.ensures (ap not c.if-not-is_market_of.false) _ c.work.ensures.0 c.if-work-ne0.true in
    record {
      value = l.answers;
      table_after = l.table_is;
      area_after = l.area_is;
    }

pub next-first-requires : goal.next-first-requires
next-first-requires c =
    let s = c.args in
    market_long s.q s.table.now s.buffer.now s.area.now c.if-area-lt1024.false _ c.is_market_of.ensures (ap not c.if-not-is_market_of.false)

pub go-halt-requires : goal.go-halt-requires
go-halt-requires c =
    let s = c.args in
    idle_is s.q s.table.now s.buffer.now s.area.now c.if-area-lt1024.false _ c.is_market_of.ensures (ap not c.if-not-is_market_of.false) _ c.work.ensures.0 c.if-work-ne0.false

pub next-requires : goal.next-requires
next-requires c =
    let s = c.args in
    after_long s.q s.table.now s.buffer.now s.area.now c.if-area-lt1024.false _ c.is_market_of.ensures (ap not c.if-not-is_market_of.false) _ c.work.ensures.0 c.if-work-ne0.false _ c.next-first.ensures _ _ _ c.go-halt.ensures

pub overflow_sub-reports : goal.overflow_sub-reports
overflow_sub-reports c =
    let s = c.args in
    numbers_up s.q s.table.now s.buffer.now s.area.now c.if-area-lt1024.false _ c.is_market_of.ensures (ap not c.if-not-is_market_of.false) _ c.work.ensures.0 c.if-work-ne0.false _ c.next-first.ensures _ _ _ c.go-halt.ensures _ c.next.ensures

pub returns : goal.returns
returns c =
    let s = c.args in
    let l = loaded_leaves s.q s.table.now s.buffer.now s.area.now c.if-area-lt1024.false _ c.is_market_of.ensures (ap not c.if-not-is_market_of.false) _ c.work.ensures.0 c.if-work-ne0.false _ c.next-first.ensures _ _ _ c.go-halt.ensures _ c.next.ensures in
    record {
      value = l.answers;
      table_after = l.table_is;
      area_after = l.area_is;
    }
