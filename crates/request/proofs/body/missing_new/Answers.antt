-- The table of needed tags of a new order, for each instrument.
use Rattle.request.proofs.Answers.{unset_bonds, unset_equities}
use borrow.Author.Rules.{rules}
use Rattle.request.proofs.body.missing_new.Goals as goal

pub returns-in-Bonds : goal.returns-in-Bonds
returns-in-Bonds c = search (rules, unset_bonds)

pub returns-in-Equities : goal.returns-in-Equities
returns-in-Equities c = search (rules, unset_equities)
