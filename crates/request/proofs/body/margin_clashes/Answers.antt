-- 8214 against 544.
use Rattle.request.proofs.Answers.{margin_bonds, margin_is}
use borrow.Author.Rules.{rules}
use Rattle.request.proofs.body.margin_clashes.Goals as goal

pub returns-in-Bonds : goal.returns-in-Bonds
returns-in-Bonds c = search (rules, margin_bonds)

pub returns-in-Equities : goal.returns-in-Equities
returns-in-Equities c = search (rules, margin_is)
