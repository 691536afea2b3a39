-- `book::print::write_sheet` meets its contract: the heading alone where the table is no market or has an order in work, else both sides.
use borrow.Author.Rules.{rules}
use Rattle.book.proofs.Sheets.{sheet_market, sheet_long, sheet_kind, sides_room, sheet_none, sheet_busy, sheet_whole}
use Rattle.book.proofs.print.write_sheet.Goals as goal

pub returns-then-not-is_market_of : goal.returns-then-not-is_market_of
returns-then-not-is_market_of c = search (rules, sheet_none)

pub work-requires : goal.work-requires
work-requires c = search (rules, sheet_long)

pub returns-then-work-gt0 : goal.returns-then-work-gt0
returns-then-work-gt0 c = search (rules, sheet_busy)

pub put_sides-requires : goal.put_sides-requires
put_sides-requires c = search (rules, sheet_market, sheet_kind, sides_room)

pub returns : goal.returns
returns c = search (rules, sheet_whole)
