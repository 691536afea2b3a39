-- `book::print::put_side` meets its contract: after so many turns the lines of as many levels are written, and x is the level behind them.
use borrow.Author.Rules.{rules}
use Rattle.book.proofs.Lines.{going_none, going_room, going_one, going_early, going_end}
use Rattle.book.proofs.print.put_side.Goals as goal

pub loop-init : goal.loop-init
loop-init c = search (rules, going_none)

pub returns-then-x-eq0 : goal.returns-then-x-eq0
returns-then-x-eq0 c = search (rules, going_early)

pub put_line-next-requires : goal.put_line-next-requires
put_line-next-requires c = search (rules, going_room)

pub loop-preserved : goal.loop-preserved
loop-preserved c = search (rules, going_one)

pub returns : goal.returns
returns c = search (rules, going_end)
