-- Digits of a bond, characters of a share.
use Rattle.request.proofs.Judging.{code_bonds, code_equities}
use borrow.Author.Rules.{rules}
use Rattle.request.proofs.values.code.Goals as goal

pub returns-in-Bonds : goal.returns-in-Bonds
returns-in-Bonds c = search (rules, code_bonds)

pub returns-in-Equities : goal.returns-in-Equities
returns-in-Equities c = search (rules, code_equities)
