-- MarginTransactionType, which only a market of equities lists.
use Rattle.request.proofs.Judging.{margin_none, margin_equities}
use borrow.Author.Rules.{rules}
use Rattle.request.proofs.values.margin.Goals as goal

pub returns-in-Bonds : goal.returns-in-Bonds
returns-in-Bonds c = search (rules, margin_none)

pub returns-in-Equities : goal.returns-in-Equities
returns-in-Equities c = search (rules, margin_equities)
