-- `book::print::put_heading` meets its contract: the words of the market.
use borrow.Author.Rules.{rules}
use Rattle.book.proofs.Sheets.{yield_heading, price_heading}
use Rattle.book.proofs.print.put_heading.Goals as goal

pub returns-in-Bonds : goal.returns-in-Bonds
returns-in-Bonds c = search (rules, yield_heading)

pub returns-in-Equities : goal.returns-in-Equities
returns-in-Equities c = search (rules, price_heading)
