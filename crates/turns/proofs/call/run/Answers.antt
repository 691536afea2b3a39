-- `turns::call::run` meets its contract: the two refusals in their order, then the steps.
use Rattle.turns.proofs.Going.{run_no_room, run_no_market, run_market, run_walked}
use borrow.Author.Rules.{rules}
use Rattle.std.proofs.Common.{ap, not}
use Rattle.turns.proofs.call.run.Goals as goal

pub returns-then-area-lt1024 : goal.returns-then-area-lt1024
returns-then-area-lt1024 c =
    let s = c.args in
    let w = run_no_room s.q s.table.now s.area.now s.budget c.if-area-lt1024.true in
    record { value = w.answer; table_after = w.table; area_after = w.bytes_in }

pub returns-then-not-is_market_of : goal.returns-then-not-is_market_of
returns-then-not-is_market_of c =
    let s = c.args in
    let w = run_no_market s.q s.table.now s.area.now s.budget c.if-area-lt1024.false _ c.is_market_of.ensures (ap not c.if-not-is_market_of.true) in
    record { value = w.answer; table_after = w.table; area_after = w.bytes_in }

pub steps-requires : goal.steps-requires
steps-requires c = search (rules, run_market)

pub returns : goal.returns
returns c =
    let s = c.args in
    let w = run_walked s.q s.table.now s.area.now s.budget c.if-area-lt1024.false _ c.is_market_of.ensures
    (ap not c.if-not-is_market_of.false) _ _ _ c.steps.ensures in
    record { value = w.answer; table_after = w.table; area_after = w.bytes_in }
