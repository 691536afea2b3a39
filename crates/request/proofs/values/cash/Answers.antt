-- CashMargin, which only a market of equities lists.
use Rattle.request.proofs.Judging.{cash_none, cash_equities}
use borrow.Author.Rules.{rules}
use Rattle.request.proofs.values.cash.Goals as goal

pub returns-in-Bonds : goal.returns-in-Bonds
returns-in-Bonds c = search (rules, cash_none)

pub returns-in-Equities : goal.returns-in-Equities
returns-in-Equities c = search (rules, cash_equities)
