-- The sides of a market.
use Rattle.request.proofs.Judging.{side_bonds, side_equities}
use borrow.Author.Rules.{rules}
use Rattle.request.proofs.values.side.Goals as goal

pub returns-in-Bonds : goal.returns-in-Bonds
returns-in-Bonds c = search (rules, side_bonds)

pub returns-in-Equities : goal.returns-in-Equities
returns-in-Equities c = search (rules, side_equities)
