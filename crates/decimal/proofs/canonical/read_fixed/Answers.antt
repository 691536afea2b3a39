-- `canonical::read_fixed` meets its contract, for each instrument.
use Rattle.decimal.proofs.Canon.{fixed_bonds, fixed_equities}
use borrow.Author.Rules.{rules}
use Rattle.decimal.proofs.canonical.read_fixed.Goals as goal

pub returns-in-Bonds : goal.returns-in-Bonds
returns-in-Bonds c = search (rules, fixed_bonds)

pub returns-in-Equities : goal.returns-in-Equities
returns-in-Equities c = search (rules, fixed_equities)
